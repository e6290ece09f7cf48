-- How many atoms an interpretation decides, how that grows, and how many it decides newly. Assumes nothing.
use mathlib.Core.Path.{◌≡◌, refl, sym, ap, ap₂, ◌∙◌}
use mathlib.Core.Bool.{Bool, true, false, not, ◌&&◌, ◌||◌, and-true, and-false, true≢false}
use mathlib.Core.Logic.{◌⊎◌, inl, inr}
use Prim.Native.Nat.{ℕ, ◌+◌, ◌-◌, ◌^◌, ◌≤◌, ◌<◌}
use native.Mathlib.Nat.{lt_of_le_of_lt}
use native.Mathlib.Omega.{arith}
use lib.Bits.{bit_and, bit_or, and_le_l, or_lt}
use lib.Count.{ones}
use Rattle.words.specs.Below.{sum}
use Rattle.words.specs.Bits.{has, digit, word}
use Rattle.words.proofs.Bits.{has-and, has-not}
use Rattle.words.proofs.Words.{word_lt, has_word}
use Rattle.words.proofs.Sums.{sum_ext, sum-add, ones-sum}
use Rattle.words.proofs.Counts.{ones-grow, ones-joined, ones-apart}
use Rattle.logic.specs.declared.value.Value.{Value}
use Rattle.logic.specs.declared.interpretation.Interpretation.{Interpretation}
use Rattle.logic.specs.Value.{is_decided}
use Rattle.logic.specs.Interpretation.{value_at, decided_in, newly_decided, Disjoint}
use Rattle.logic.specs.Order.{Leq, Contained}
use Rattle.logic.proofs.Values.{decided-among}
use Rattle.logic.proofs.Order.{leq_decided}
use Rattle.logic.proofs.Interpretations.{Good, interpretation_eq, apart-at, true_at, false_at, decided-at}

pub decided-le : (m : ℕ) (i : Interpretation) → i.trues < 2 ^ m → i.falses < 2 ^ m → Disjoint i → decided_in i ≤ m
decided-le m i t f d = ones-apart m i.trues i.falses t f (λ a l. apart-at i d a)

-- an interpretation contained in another is the other, or decides fewer atoms
pub grow : (i j : Interpretation) → Good i → Good j → Contained (value_at i) (value_at j)
    → (i ≡ j) ⊎ (decided_in i < decided_in j)
grow i j g h k =
    go (ones-grow 64 i.trues j.trues g.trues_fit h.trues_fit trues_in)
    (ones-grow 64 i.falses j.falses g.falses_fit h.falses_fit falses_in)
  where
    trues_in : (a : ℕ) → a < 64 → has i.trues a ≡ true → has j.trues a ≡ true
    trues_in a l e = sym (true_at j a) ∙ (k a).true_kept (true_at i a ∙ e)

    falses_in : (a : ℕ) → a < 64 → has i.falses a ≡ true → has j.falses a ≡ true
    falses_in a l e = sym (false_at j h.disjoint a) ∙ (k a).false_kept (false_at i g.disjoint a ∙ e)

    go : (i.trues ≡ j.trues) ⊎ (ones i.trues < ones j.trues)
        → (i.falses ≡ j.falses) ⊎ (ones i.falses < ones j.falses) → (i ≡ j) ⊎ (decided_in i < decided_in j)
    go (inl p) (inl q) = inl (interpretation_eq p q)
    go (inl p) (inr q) = inr (omega (arith, ap ones p))
    go (inr p) (inl q) = inr (omega (arith, ap ones q))
    go (inr p) (inr q) = inr (omega arith)

-- ---- the newly decided atoms
-- the decided atoms, one by one
pub decided-sum : (i : Interpretation) → Good i → decided_in i ≡ sum 64 (λ a. digit (is_decided (value_at i a)))
decided-sum i g =
    ones-joined 64 i.trues i.falses g.trues_fit g.falses_fit (λ a l. apart-at i g.disjoint a)
    ∙ sum_ext 64 (λ a. digit (has i.trues a || has i.falses a)) (λ a. digit (is_decided (value_at i a)))
    (λ a l. ap digit (sym (decided-among (has i.trues a) (has i.falses a))))

module _ (i j : Interpretation) where
  abbrev newly_at : ℕ → Bool
  newly_at a = not (is_decided (value_at i a)) && is_decided (value_at j a)

  newly-sum : newly_decided i j ≡ sum 64 (λ a. digit (newly_at a))
  newly-sum =
      ones-sum 64 (word 64 newly_at) (word_lt 64 newly_at)
      ∙ sum_ext 64 (λ a. digit (has (word 64 newly_at) a)) (λ a. digit (newly_at a))
      (λ a l. ap digit (has_word 64 newly_at a l))

  -- where j keeps what i decides, it decides as many atoms more as it decides newly
  pub newly-more : Good i → Good j → Contained (value_at i) (value_at j)
      → newly_decided i j + decided_in i ≡ decided_in j
  newly-more g h k =
      ap₂ ◌+◌ newly-sum (decided-sum i g)
      ∙ sum-add 64 (λ a. digit (newly_at a)) (λ a. digit (is_decided (value_at i a)))
      ∙ sum_ext 64 _ (λ a. digit (is_decided (value_at j a)))
      (λ a l. more (is_decided (value_at i a)) (is_decided (value_at j a)) (kept (value_at i a) (value_at j a) (k a)))
      ∙ sym (decided-sum j h)
    where
      kept : (x y : Value) → Leq x y → is_decided x ≡ true → is_decided y ≡ true
      kept x y q e = ap is_decided (leq_decided x y q e) ∙ e

      more : (x y : Bool) → (x ≡ true → y ≡ true) → digit (not x && y) + digit x ≡ digit y
      more true y e = ap digit (sym (e refl))
      more false y e = omega arith

  -- the atoms that i leaves open
  abbrev open_in : ℕ
  open_in = 2 ^ 64 - 1 - bit_or i.trues i.falses

  -- of the two words of j, the bits that i leaves open
  abbrev pub newly_in : Interpretation
  newly_in = record { trues = bit_and j.trues open_in; falses = bit_and j.falses open_in }

  pub newly-counted : i.trues < 2 ^ 64 → i.falses < 2 ^ 64 → Good j → decided_in newly_in ≡ newly_decided i j
  newly-counted t f h =
      ones-joined 64 newly_in.trues newly_in.falses (cut j.trues h.trues_fit)
      (cut j.falses h.falses_fit)
      (λ a l. ap₂ ◌&&◌ (has-and j.trues open_in a) (has-and j.falses open_in a)
      ∙ apart (has j.trues a) (has j.falses a) (has open_in a) (apart-at j h.disjoint a))
      ∙ sum_ext 64 _ (λ a. digit (newly_at a)) (λ a l. ap digit (newly a l))
      ∙ sym newly-sum
    where
      cut : (w : ℕ) → w < 2 ^ 64 → bit_and w open_in < 2 ^ 64
      cut w l = lt_of_le_of_lt (and_le_l w open_in) l

      apart : (x y o : Bool) → (x && y) ≡ false → ((x && o) && (y && o)) ≡ false
      apart true true o e = absurd (true≢false e)
      apart true false o e = and-false o
      apart false y o e = refl

      both : (x y o : Bool) → ((x && o) || (y && o)) ≡ (o && (x || y))
      both true y true = refl
      both true y false = and-false y
      both false y true = and-true y
      both false y false = and-false y

      newly : (a : ℕ) → a < 64 → (has newly_in.trues a || has newly_in.falses a) ≡ newly_at a
      newly a l =
          ap₂ ◌||◌ (has-and j.trues open_in a) (has-and j.falses open_in a)
          ∙ both (has j.trues a) (has j.falses a) (has open_in a)
          ∙ ap₂ ◌&&◌
          (has-not 64 (bit_or i.trues i.falses) a (or_lt 64 _ _ t f) l ∙ ap not (decided-at i a))
          (sym (decided-among (has j.trues a) (has j.falses a)))
