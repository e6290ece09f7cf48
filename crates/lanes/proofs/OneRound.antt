-- One round in one lane: its column is redone, and it changes where an atom is decided anew. Assumes nothing.
use mathlib.Core.Path.{◌≡◌, sym, ap, ap₂, ◌∙◌}
use mathlib.Core.Bool.{Bool, not, ◌&&◌, ◌||◌}
use mathlib.Core.List.{List}
use Prim.Native.Nat.{ℕ, ◌<◌}
use Rattle.words.specs.Choice.{pick}
use Rattle.words.specs.Bits.{has}
use Rattle.words.proofs.Bits.{has-or, differs}
use Rattle.words.proofs.Words.{has_word}
use Rattle.logic.specs.declared.value.Value.{Value}
use Rattle.logic.specs.declared.interpretation.Interpretation.{Interpretation}
use Rattle.logic.specs.Value.{is_true, is_false, is_decided}
use Rattle.logic.specs.Interpretation.{value_at}
use Rattle.logic.proofs.Interpretations.{changed, has-changed}
use Rattle.prepared.proofs.Redoing.{redone, open_in, has_open}
use Rattle.round.specs.declared.redo.Changed.{Changed}
use Rattle.planes.specs.Planes.{at, column, Planes}
use Rattle.round.specs.Redo.{open_at, ruled, fresh, Redone}
use Rattle.planes.proofs.Columns.{column_true, column_false, column_good, column_values}
use Rattle.planes.proofs.Choosing.{kept_true, kept_false, chosen-differs}

module _ (cl : List ℕ) (n heads : ℕ) (t f t₁ f₁ : List ℕ) (r : Changed) (d : Planes t f)
    (e : Redone cl n heads t f t₁ f₁ r) (j : ℕ) (l : j < 64) where
  abbrev i : Interpretation
  i = column t f j

  abbrev v : ℕ → Value
  v = value_at i

  open_bit : (a : ℕ) → a < 64 → has (open_in i heads) a ≡ (has heads a && open_at t f j a)
  open_bit a m =
      has_open i (column_good t f j (d j l)) heads a m
      ∙ ap (λ (b : Bool). has heads a && not b)
      (has-or i.trues i.falses a ∙ ap₂ ◌||◌ (has_word 64 (at t j) a m) (has_word 64 (at f j) a m))

  -- the column is the old one with the open atoms of the word redone
  pub redone-column : column t₁ f₁ j ≡ redone cl n i (open_in i heads)
  redone-column =
      column_values t₁ f₁ j (λ a. pick (has (open_in i heads) a) (ruled cl n t f j a) (v a))
      (λ a m. e.trues_are j a l m
      ∙ kept_true is_true (has heads a) (at t j a) (at f j a) (ruled cl n t f j a) (v a) (column_true t f j a m)
      ∙ ap (λ (b : Bool). is_true (pick b (ruled cl n t f j a) (v a))) (sym (open_bit a m)))
      (λ a m. e.falses_are j a l m
      ∙ kept_false is_false (has heads a) (at t j a) (at f j a) (ruled cl n t f j a) (v a)
      (column_false t f j (d j l) a m)
      ∙ ap (λ (b : Bool). is_false (pick b (ruled cl n t f j a) (v a))) (sym (open_bit a m)))

  -- an atom changes where it is decided anew
  pub moved_at : (a : ℕ) → a < 64
      → has (changed (column t₁ f₁ j) i) a ≡ fresh is_decided cl n heads t f j a
  moved_at a m =
      has-changed (column t₁ f₁ j) i a
      ∙ ap₂ ◌||◌
      (ap₂ differs (has_word 64 (at t₁ j) a m ∙ e.trues_are j a l m) (has_word 64 (at t j) a m))
      (ap₂ differs (has_word 64 (at f₁ j) a m ∙ e.falses_are j a l m) (has_word 64 (at f j) a m))
      ∙ chosen-differs (has heads a) (at t j a) (at f j a) (is_true (ruled cl n t f j a))
      (is_false (ruled cl n t f j a))
