-- Laws of bodies: their value by tests of each atom's literals, by masks, and that it keeps the order of information.
-- Assumes nothing.
use mathlib.Core.Path.{◌≡◌, refl, sym, ap, ap₂, ◌∙◌}
use mathlib.Core.Bool.{Bool, true, false, not, ◌&&◌, ◌||◌, not-not, and-true, or-false, or_assoc}
use Prim.Native.Nat.{ℕ, zero, suc, ◌-◌, ◌^◌, ◌<◌}
use native.Mathlib.Omega.{arith}
use lib.Dec.{eqb}
use lib.Bits.{bit_and, bit_or, and_lt, or_lt}
use borrow.Author.Tests.{eq-eqb, ne_eqb}
use Rattle.words.specs.Below.{any}
use Rattle.words.specs.Bits.{has}
use Rattle.words.proofs.Below.{any_ext}
use Rattle.words.proofs.Bits.{has-and, has-or, has-not}
use Rattle.words.proofs.Words.{zero-any}
use Rattle.logic.specs.declared.value.Value.{Value}
use Rattle.logic.specs.declared.value.Value.TheVariants.{False, Unknown, True}
use Rattle.logic.specs.declared.interpretation.Interpretation.{Interpretation}
use Rattle.logic.specs.Value.{is_true, is_false}
use Rattle.logic.specs.Formula.{Formula, value_of, literal, and_if, literals_below, body}
use Rattle.logic.specs.Interpretation.{value_at}
use Rattle.logic.specs.Order.{Leq, Contained}
use Rattle.logic.proofs.Values.{is_true_lem, is_false_lem, is-unknown}
use Rattle.logic.proofs.Values.{value_ext, true_lesser, false_lesser, true_negated, false_negated}
use Rattle.logic.proofs.Order.{leq_refl, negated_mono, lesser_mono}
use Rattle.logic.proofs.Interpretations.{Good, true_at, false_at}

-- ---- by tests of each atom's literals
-- some literal on atom a is not true
abbrev pub missed : (ℕ → Value) → ℕ → ℕ → ℕ → Bool
missed v p n a = has p a && not (is_true (v a)) || has n a && not (is_false (v a))

-- some literal on atom a is false
abbrev pub opposed : (ℕ → Value) → ℕ → ℕ → ℕ → Bool
opposed v p n a = has p a && is_false (v a) || has n a && is_true (v a)

true_and_if : (v : ℕ → Value) (t : Bool) (f g : Formula)
    → is_true (value_of v (and_if t f g)) ≡ (is_true (value_of v f) && not (t && not (is_true (value_of v g))))
unfolding value_of
true_and_if v true f g =
    true_lesser (value_of v f) (value_of v g)
    ∙ ap (λ (b : Bool). is_true (value_of v f) && b) (sym (not-not (is_true (value_of v g))))
true_and_if v false f g = sym (and-true (is_true (value_of v f)))

false_and_if : (v : ℕ → Value) (t : Bool) (f g : Formula)
    → is_false (value_of v (and_if t f g)) ≡ (is_false (value_of v f) || t && is_false (value_of v g))
unfolding value_of
false_and_if v true f g = false_lesser (value_of v f) (value_of v g)
false_and_if v false f g = sym (or-false (is_false (value_of v f)))

none_of : (a b c : Bool) → (not a && not b && not c) ≡ not (a || (b || c))
none_of true b c = refl
none_of false true c = refl
none_of false false c = refl

module _ (v : ℕ → Value) (p n : ℕ) where
  pub true_literals : (k : ℕ) → is_true (value_of v (literals_below p n k)) ≡ not (any k (missed v p n))
  unfolding value_of literals_below
  true_literals zero = refl
  true_literals (suc a) =
      true_and_if v (has n a) (and_if (has p a) (literals_below p n a) (literal false a)) (literal true a)
      ∙ ap₂ ◌&&◌
      (true_and_if v (has p a) (literals_below p n a) (literal false a)
      ∙ ap (λ (b : Bool). b && not (has p a && not (is_true (v a)))) (true_literals a))
      (ap (λ (b : Bool). not (has n a && not b)) (true_negated (v a)))
      ∙ none_of (any a (missed v p n)) (has p a && not (is_true (v a))) (has n a && not (is_false (v a)))

  pub false_literals : (k : ℕ) → is_false (value_of v (literals_below p n k)) ≡ any k (opposed v p n)
  unfolding value_of literals_below
  false_literals zero = refl
  false_literals (suc a) =
      false_and_if v (has n a) (and_if (has p a) (literals_below p n a) (literal false a)) (literal true a)
      ∙ ap₂ ◌||◌
      (false_and_if v (has p a) (literals_below p n a) (literal false a)
      ∙ ap (λ (b : Bool). b || has p a && is_false (v a)) (false_literals a))
      (ap (λ (b : Bool). has n a && b) (false_negated (v a)))
      ∙ or_assoc (any a (opposed v p n)) (has p a && is_false (v a)) (has n a && is_true (v a))

-- ---- by masks
module _ (i : Interpretation) (p n : ℕ) (g : Good i) (hp : p < 2 ^ 64) (hn : n < 2 ^ 64) where
  -- the literals that are false, and those that are not true
  abbrev against_in : ℕ
  against_in = bit_or (bit_and p i.falses) (bit_and n i.trues)

  abbrev missing_in : ℕ
  missing_in = bit_or (bit_and p (2 ^ 64 - 1 - i.trues)) (bit_and n (2 ^ 64 - 1 - i.falses))

  -- no literal is false
  against : eqb against_in 0
      ≡ not (is_false (value_of (value_at i) (body p n)))
  against =
      zero-any 64 _ (or_lt 64 _ _ (and_lt 64 _ _ hp g.falses_fit) (and_lt 64 _ _ hn g.trues_fit))
      ∙ ap not
      (any_ext 64 (has against_in) (opposed (value_at i) p n)
      (λ a l. has-or (bit_and p i.falses) (bit_and n i.trues) a
      ∙ ap₂ ◌||◌
      (has-and p i.falses a ∙ ap (λ (b : Bool). has p a && b) (sym (false_at i g.disjoint a)))
      (has-and n i.trues a ∙ ap (λ (b : Bool). has n a && b) (sym (true_at i a))))
      ∙ sym (false_literals (value_at i) p n 64))

  -- every literal is true
  missing : eqb missing_in 0
      ≡ is_true (value_of (value_at i) (body p n))
  missing =
      zero-any 64 _ (or_lt 64 _ _ (and_lt 64 _ _ hp (omega arith)) (and_lt 64 _ _ hn (omega arith)))
      ∙ ap not
      (any_ext 64 (has missing_in)
      (missed (value_at i) p n)
      (λ a l. has-or (bit_and p (2 ^ 64 - 1 - i.trues)) (bit_and n (2 ^ 64 - 1 - i.falses)) a
      ∙ ap₂ ◌||◌
      (has-and p (2 ^ 64 - 1 - i.trues) a
      ∙ ap (λ (b : Bool). has p a && b) (has-not 64 i.trues a g.trues_fit l ∙ ap not (sym (true_at i a))))
      (has-and n (2 ^ 64 - 1 - i.falses) a
      ∙ ap (λ (b : Bool). has n a && b) (has-not 64 i.falses a g.falses_fit l
      ∙ ap not (sym (false_at i g.disjoint a))))))
      ∙ sym (true_literals (value_at i) p n 64)

  pub body_false : (against_in ≡ 0 → ⊥) → False ≡ value_of (value_at i) (body p n)
  body_false h = sym (is_false_lem _ (sym (not-not _) ∙ ap not (sym against ∙ ne_eqb _ 0 h)))

  pub body_true : missing_in ≡ 0 → True ≡ value_of (value_at i) (body p n)
  body_true h = sym (is_true_lem _ (sym missing ∙ eq-eqb _ 0 h))

  pub body_unknown : against_in ≡ 0 → (missing_in ≡ 0 → ⊥) → Unknown ≡ value_of (value_at i) (body p n)
  body_unknown h k =
      sym (is-unknown _ (sym missing ∙ ne_eqb _ 0 k) (sym (not-not _) ∙ ap not (sym against ∙ eq-eqb _ 0 h)))

-- ---- under two valuations
and_if_mono : (v w : ℕ → Value) (t : Bool) (f g : Formula) → Leq (value_of v f) (value_of w f)
    → Leq (value_of v g) (value_of w g) → Leq (value_of v (and_if t f g)) (value_of w (and_if t f g))
unfolding value_of
and_if_mono v w true f g h k = lesser_mono h k
and_if_mono v w false f g h k = h

literals_mono : (v w : ℕ → Value) (p n k : ℕ) → ((a : ℕ) → a < k → Leq (v a) (w a))
    → Leq (value_of v (literals_below p n k)) (value_of w (literals_below p n k))
unfolding value_of literals_below
literals_mono v w p n zero h = leq_refl _
literals_mono v w p n (suc a) h =
    and_if_mono v w (has n a) (and_if (has p a) (literals_below p n a) (literal false a)) (literal true a)
    (and_if_mono v w (has p a) (literals_below p n a) (literal false a)
    (literals_mono v w p n a (λ b l. h b (omega arith))) (h a (omega arith)))
    (negated_mono (h a (omega arith)))

pub body_mono : (v w : ℕ → Value) → Contained v w → (p n : ℕ) → Leq (value_of v (body p n)) (value_of w (body p n))
body_mono v w h p n = literals_mono v w p n 64 (λ a l. h a)

-- where they agree on the atoms that the body names
module _ (v w : ℕ → Value) (p n : ℕ) (e : (a : ℕ) → a < 64 → (has p a || has n a) ≡ true → v a ≡ w a) where
  tests_same : (f g : Value → Bool) (a : ℕ) → a < 64
      → (has p a && f (v a) || has n a && g (v a)) ≡ (has p a && f (w a) || has n a && g (w a))
  tests_same f g a l = go (has p a) (has n a) (e a l)
    where
      go : (s t : Bool) → ((s || t) ≡ true → v a ≡ w a)
          → (s && f (v a) || t && g (v a)) ≡ (s && f (w a) || t && g (w a))
      go true t h = ap (λ (x : Value). f x || t && g x) (h refl)
      go false true h = ap g (h refl)
      go false false h = refl

  pub body_same : value_of v (body p n) ≡ value_of w (body p n)
  body_same =
      value_ext _ _
      (true_literals v p n 64
      ∙ ap not
      (any_ext 64 (missed v p n) (missed w p n) (tests_same (λ x. not (is_true x)) (λ x. not (is_false x))))
      ∙ sym (true_literals w p n 64))
      (false_literals v p n 64 ∙ any_ext 64 (opposed v p n) (opposed w p n) (tests_same is_false is_true)
      ∙ sym (false_literals w p n 64))
