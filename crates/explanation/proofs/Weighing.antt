-- Laws of the table of weights, as a walk over the causes fills it, lowest cause first. Assumes nothing.
use mathlib.Core.Path.{◌≡◌, refl, sym, ap, ◌∙◌}
use mathlib.Core.Bool.{Bool, true, false, true≢false}
use mathlib.Core.List.{List, [], ◌∷◌}
use mathlib.Core.Logic.{⊎_elim}
use Prim.Native.Nat.{ℕ, ◌*◌, ◌≤◌}
use native.Mathlib.Nat.{mul_assoc, mul-one, one-mul, le-mul_of_pos_right}
use native.Mathlib.Omega.{arith}
use lib.Dec.{eqb}
use lib.ListN.{length, get_or, set, length-set}
use lib.Seq.{get_or-set_same, get_or-set_other}
use borrow.Author.Tests.{eqb-true, eqb-false, eq-eqb, ne_eqb}
use Rattle.words.specs.Choice.{pick}
use Rattle.words.specs.Bits.{has}
use Rattle.words.specs.OneBit.{BitOf, without_bit, LowestOf}
use Rattle.words.proofs.Tests.{true_or_false}
use Rattle.words.proofs.Bits.{has-zero}
use Rattle.words.proofs.BitWalks.{without_here, without_other}
use Rattle.program.specs.declared.cause.Causes.{Causes}
use Rattle.program.specs.Cause.{causes_by, atoms_in}
use Rattle.program.specs.Setting.{choice_of, choices_for, product, settings_of}
use Rattle.program.proofs.Atoms.{atoms_lowest}
use Rattle.program.proofs.Settings.{settings-product, settings_lowest, settings-some}
use Rattle.explanation.specs.Covering.{weight_in, Weights}
use Rattle.explanation.proofs.Subsets.{choices_positive}

-- ---- the lowest cause
module _ (tw left a : ℕ) (h : LowestOf left a) where
  weight_lowest : (b : ℕ) → weight_in tw (atoms_in left) b
      ≡ pick (eqb b a) 1 (choice_of tw a * weight_in tw (atoms_in (without_bit left a)) b)
  unfolding weight_in
  weight_lowest b = ap (λ (l : List ℕ). weight_in tw l b) (atoms_lowest left a h)

  weight-own : weight_in tw (atoms_in left) a ≡ 1
  weight-own =
      weight_lowest a
      ∙ ap (λ (t : Bool). pick t 1 (choice_of tw a * weight_in tw (atoms_in (without_bit left a)) a)) (eq-eqb a a refl)

  weight-other : (b : ℕ) → (b ≡ a → ⊥)
      → weight_in tw (atoms_in left) b ≡ choice_of tw a * weight_in tw (atoms_in (without_bit left a)) b
  weight-other b n =
      weight_lowest b
      ∙ ap (λ (t : Bool). pick t 1 (choice_of tw a * weight_in tw (atoms_in (without_bit left a)) b)) (ne_eqb b a n)

-- ---- the walk over the causes w: those left are to come, and the lowest of them counts weight
pub record Weighed (tw w left weight : ℕ) (t : List ℕ) : Type 0 where
  pub size : length t ≡ 64
  pub few : weight * settings_of (causes_by tw left) ≤ 59049
  pub passed : (a : ℕ) → BitOf w a → has left a ≡ false → get_or t a 0 ≡ weight_in tw (atoms_in w) a
  to_come : (a : ℕ) → BitOf left a → weight_in tw (atoms_in w) a ≡ weight * weight_in tw (atoms_in left) a

pub weighed_start : (w : Causes) (t : List ℕ) → settings_of w ≤ 59049 → length t ≡ 64
    → Weighed w.twofold w.all w.all 1 t
weighed_start w t k e = record {
  size = e;
  few = rw one-mul k;
  passed = λ a b f. absurd (true≢false (sym b.there ∙ f));
  to_come = λ a b. sym (one-mul (weight_in w.twofold (atoms_in w.all) a));
}

-- r is the choice count of the lowest cause left
module _ (tw w left weight : ℕ) (t : List ℕ) (a r : ℕ) (g : Weighed tw w left weight t) (h : LowestOf left a)
    (e : r ≡ choice_of tw a) where
  few-next : weight * r * settings_of (causes_by tw (without_bit left a)) ≤ 59049
  few-next =
      rw (
      mul_assoc weight r (settings_of (causes_by tw (without_bit left a)))
      ∙ ap (λ (c : ℕ). weight * (c * settings_of (causes_by tw (without_bit left a)))) e
      ∙ ap (λ (n : ℕ). weight * n) (sym (settings_lowest tw left a h))
      ) g.few

  pub weight-few : weight * r ≤ 59049
  weight-few = omega (arith, few-next, le-mul_of_pos_right (weight * r) (settings-some tw (without_bit left a)))

  own-next : get_or (set t a weight) a 0 ≡ weight_in tw (atoms_in w) a
  own-next =
      get_or-set_same t a weight 0 (omega (arith, g.size, h.bit.small))
      ∙ sym (g.to_come a h.bit ∙ ap (λ (k : ℕ). weight * k) (weight-own tw left a h) ∙ mul-one weight)

  passed-next : (b : ℕ) → BitOf w b → has (without_bit left a) b ≡ false
      → get_or (set t a weight) b 0 ≡ weight_in tw (atoms_in w) b
  passed-next b f e =
      ⊎_elim
      (λ (q : eqb b a ≡ true).
      ap (λ (k : ℕ). get_or (set t a weight) k 0) (eqb-true b a q) ∙ own-next
      ∙ sym (ap (weight_in tw (atoms_in w)) (eqb-true b a q)))
      (λ (q : eqb b a ≡ false).
      let n = eqb-false b a q in
      get_or-set_other t a b weight 0 n
      ∙ g.passed b f (sym (without_other left a h.bit b f.small n) ∙ e))
      (true_or_false (eqb b a))

  to_come_next : (b : ℕ) → BitOf (without_bit left a) b
      → weight_in tw (atoms_in w) b ≡ weight * r * weight_in tw (atoms_in (without_bit left a)) b
  to_come_next b f =
      let n : b ≡ a → ⊥ =
      λ q. true≢false (sym f.there ∙ ap (has (without_bit left a)) q ∙ without_here left a h.bit) in
      g.to_come b (record {
        small = f.small;
        there = sym (without_other left a h.bit b f.small n) ∙ f.there;
      })
      ∙ ap (λ (k : ℕ). weight * k) (weight-other tw left a h b n)
      ∙ ap (λ (c : ℕ). weight * (c * weight_in tw (atoms_in (without_bit left a)) b)) (sym e)
      ∙ sym (mul_assoc weight r (weight_in tw (atoms_in (without_bit left a)) b))

  pub weighed_next : Weighed tw w (without_bit left a) (weight * r) (set t a weight)
  weighed_next = record {
    size = simp length-set g.size;
    few = few-next;
    passed = passed-next;
    to_come = to_come_next;
  }

pub weighed_end : (w : Causes) (left weight : ℕ) (t : List ℕ) → left ≡ 0
    → Weighed w.twofold w.all left weight t → Weights w t
weighed_end w left weight t e g a b = g.passed a b (ap (λ (k : ℕ). has k a) e ∙ has-zero a)

-- ---- twice a weight is no more than the settings
weight-fits : (tw : ℕ) (l : List ℕ) (a : ℕ) → 2 * weight_in tw l a ≤ product (choices_for tw l)
unfolding weight_in choices_for product
weight-fits tw [] a = omega arith
weight-fits tw (b ∷ l) a = go (has tw b) (weight-fits tw l a) (eqb a b)
  where
    go : (u : Bool) → 2 * weight_in tw l a ≤ product (choices_for tw l) → (t : Bool)
        → 2 * pick t 1 (pick u 2 3 * weight_in tw l a) ≤ pick u 2 3 * product (choices_for tw l)
    go true h true = omega (arith, choices_positive tw l)
    go false h true = omega (arith, choices_positive tw l)
    go true h false = omega (arith, h)
    go false h false = omega (arith, h)

pub weights_low : (w : Causes) (t : List ℕ) → Weights w t → settings_of w ≤ 59049 → (a : ℕ) → BitOf w.all a
    → 2 * get_or t a 0 ≤ 59072
weights_low w t g h a b =
    omega (arith, h, g a b, weight-fits w.twofold (atoms_in w.all) a, settings-product w)
