-- Laws of columns: the value of an atom in a lane, and the interpretation that a lane has. Assumes nothing.
use mathlib.Core.Path.{◌≡◌, sym, ap, ◌∙◌}
use mathlib.Core.Bool.{true, not}
use mathlib.Core.List.{List}
use Prim.Native.Nat.{ℕ, ◌-◌, ◌^◌, ◌<◌}
use lib.Pow.{pow_pos}
use Rattle.words.specs.Bits.{has}
use Rattle.words.proofs.Bits.{has-zero, has-not}
use Rattle.words.proofs.Words.{word_lt, has_word, is_word, word_ext}
use Rattle.logic.specs.declared.value.Value.{Value}
use Rattle.logic.specs.declared.interpretation.Interpretation.{Interpretation}
use Rattle.logic.specs.Value.{is_true, is_false}
use Rattle.logic.specs.Interpretation.{value_at, of_values, Disjoint}
use Rattle.logic.proofs.Interpretations.{Good, interpretation_eq, true_at, false_at}
use Rattle.planes.specs.Planes.{at, column}

-- the word that has each lane
pub all_lanes : (j : ℕ) → j < 64 → has (2 ^ 64 - 1 - 0) j ≡ true
all_lanes j l = has-not 64 0 j (pow_pos 64) l ∙ ap not (has-zero j)

module _ (t f : List ℕ) (j : ℕ) where
  pub column_true : (a : ℕ) → a < 64 → is_true (value_at (column t f j) a) ≡ at t j a
  column_true a l = true_at (column t f j) a ∙ has_word 64 (at t j) a l

  pub column_false : Disjoint (column t f j) → (a : ℕ) → a < 64 → is_false (value_at (column t f j) a) ≡ at f j a
  column_false d a l = false_at (column t f j) d a ∙ has_word 64 (at f j) a l

  pub column_good : Disjoint (column t f j) → Good (column t f j)
  column_good d = record { trues_fit = word_lt 64 (at t j); falses_fit = word_lt 64 (at f j); disjoint = d }

  -- the column with given values
  pub column_values : (v : ℕ → Value) → ((a : ℕ) → a < 64 → at t j a ≡ is_true (v a))
      → ((a : ℕ) → a < 64 → at f j a ≡ is_false (v a)) → column t f j ≡ of_values v
  column_values v p q = interpretation_eq (word_ext 64 (at t j) _ p) (word_ext 64 (at f j) _ q)

  -- the column with given words
  pub column-is : (i : Interpretation) → Good i → ((a : ℕ) → a < 64 → at t j a ≡ has i.trues a)
      → ((a : ℕ) → a < 64 → at f j a ≡ has i.falses a) → column t f j ≡ i
  column-is i g p q =
      interpretation_eq
      (sym (is_word 64 i.trues (at t j) g.trues_fit (λ a l. sym (p a l))))
      (sym (is_word 64 i.falses (at f j) g.falses_fit (λ a l. sym (q a l))))
