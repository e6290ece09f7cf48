-- The first round in lanes, atom by atom. Assumes nothing.
use mathlib.Core.Path.{◌≡◌, sym, ap, ap₂, ◌∙◌}
use mathlib.Core.Bool.{Bool, true, not, ◌&&◌, ◌||◌, or-true, true≢false}
use mathlib.Core.List.{List}
use mathlib.Core.Logic.{⊎_elim}
use Prim.Native.Nat.{ℕ, ◌+◌, ◌≤◌, ◌<◌}
use native.Mathlib.Nat.{eq-or-lt_of_le}
use native.Mathlib.Numerals.{add-one}
use native.Mathlib.Omega.{arith}
use lib.Bits.{bit_or}
use lib.Dec.{eqb}
use lib.ListN.{get_or, set, length-set}
use lib.Seq.{get_or-set_same, get_or-set_other}
use borrow.Author.Tests.{eq-eqb, ne_eqb}
use Rattle.words.specs.Below.{any}
use Rattle.words.specs.Bits.{has}
use Rattle.words.proofs.Below.{any_ext}
use Rattle.words.proofs.Bits.{has-zero, has-or}
use Rattle.words.proofs.BitWalks.{has_with}
use Rattle.planes.specs.declared.plane.Lanes.{Lanes}
use Rattle.round.specs.declared.redo.Changed.{Changed}
use Rattle.planes.specs.Planes.{at, Sizes}
use Rattle.round.specs.Redo.{noted_with}
use Rattle.planes.specs.Word.{OpensWord}
use Rattle.round.specs.Begin.{decided_at, Opens}

-- ---- the atoms below k have gone the first round
module _ (ot of oh x y : List ℕ) where
  pub record Beginning (t f : List ℕ) (c : Changed) (k : ℕ) : Type 0 where
    pub low : k ≤ 64
    pub sizes : Sizes t f
    pub trues_are : (a : ℕ) → a < k → (j : ℕ) → j < 64 → at t j a ≡ (at ot j a || at x j a)
    pub falses_are : (a : ℕ) → a < k → (j : ℕ) → j < 64
        → at f j a ≡ ((at of j a || at y j a && not (at oh j a)) && not (at x j a))
    pub lanes_are : (j : ℕ) → j < 64 → has c.lanes j ≡ any k (decided_at t f j)
    pub atoms_are : (j a : ℕ) → j < 64 → a < k → decided_at t f j a ≡ true → has c.atoms a ≡ true

  pub beginning_start : (t f : List ℕ) → Sizes t f → Beginning t f (record { lanes = 0; atoms = 0 }) 0
  beginning_start t f s = record {
    low = omega arith;
    sizes = s;
    trues_are = λ a l. absurd (omega arith);
    falses_are = λ a l. absurd (omega arith);
    lanes_are = λ j l. has-zero j;
    atoms_are = λ j a l m. absurd (omega arith);
  }

  module _ (t f : List ℕ) (c : Changed) (k : ℕ) (b : Beginning t f c k) (l : k < 64) (v : Lanes) (r : Changed)
      (w : OpensWord (get_or ot k 0) (get_or of k 0) (get_or oh k 0) (get_or x k 0) (get_or y k 0) v)
      (e : r ≡ noted_with c k (bit_or v.trues v.falses)) where
    abbrev t₁ : List ℕ
    t₁ = set t k v.trues

    abbrev f₁ : List ℕ
    f₁ = set f k v.falses

    t-here : get_or t₁ k 0 ≡ v.trues
    t-here = get_or-set_same t k v.trues 0 (omega (arith, b.sizes.first-size))

    f-here : get_or f₁ k 0 ≡ v.falses
    f-here = get_or-set_same f k v.falses 0 (omega (arith, b.sizes.second-size))

    t-other : (a : ℕ) → a < k → get_or t₁ a 0 ≡ get_or t a 0
    t-other a m = get_or-set_other t k a v.trues 0 (λ z. omega arith)

    f-other : (a : ℕ) → a < k → get_or f₁ a 0 ≡ get_or f a 0
    f-other a m = get_or-set_other f k a v.falses 0 (λ z. omega arith)

    decided-other : (j a : ℕ) → a < k → decided_at t₁ f₁ j a ≡ decided_at t f j a
    decided-other j a m = ap₂ (λ (p q : ℕ). has p j || has q j) (t-other a m) (f-other a m)

    abbrev decided : ℕ
    decided = bit_or v.trues v.falses

    decided-here : (j : ℕ) → has decided j ≡ decided_at t₁ f₁ j k
    decided-here j =
        has-or v.trues v.falses j ∙ sym (ap₂ (λ (p q : ℕ). has p j || has q j) t-here f-here)

    some : (q j : ℕ) → has q j ≡ true → q ≡ 0 → ⊥
    some q j g z = true≢false (sym g ∙ ap (λ (i : ℕ). has i j) z ∙ has-zero j)

    -- an atom that is decided in lane j is noted, be it this one or one before
    atom-here : (j a : ℕ) → decided_at t₁ f₁ j a ≡ true → a ≡ k
        → (has c.atoms a || not (eqb decided 0) && eqb a k) ≡ true
    atom-here j a h z =
        let g : has decided j ≡ true = decided-here j ∙ ap (λ (i : ℕ). decided_at t₁ f₁ j i) (sym z) ∙ h in
        ap₂ (λ (p q : Bool). has c.atoms a || not p && q) (ne_eqb decided 0 (some decided j g)) (eq-eqb a k z)
        ∙ or-true (has c.atoms a)

    atom-other : (j a : ℕ) → j < 64 → decided_at t₁ f₁ j a ≡ true → a < k
        → (has c.atoms a || not (eqb decided 0) && eqb a k) ≡ true
    atom-other j a n h z =
        ap (λ (p : Bool). p || not (eqb decided 0) && eqb a k)
        (b.atoms_are j a n z (sym (decided-other j a z) ∙ h))

    pub beginning_next : Beginning t₁ f₁ r (k + 1)
    beginning_next = record {
      low = omega arith;
      sizes = record {
        first-size = length-set t k _ ∙ b.sizes.first-size;
        second-size = length-set f k _ ∙ b.sizes.second-size;
      };
      trues_are = λ a m j n. ⊎_elim
          (λ (z : a ≡ k). rw z (ap (λ (p : ℕ). has p j) t-here ∙ w.trues_are j n))
          (λ (z : a < k). ap (λ (p : ℕ). has p j) (t-other a z) ∙ b.trues_are a z j n)
          (eq-or-lt_of_le (omega arith));
      falses_are = λ a m j n. ⊎_elim
          (λ (z : a ≡ k). rw z (ap (λ (p : ℕ). has p j) f-here ∙ w.falses_are j n))
          (λ (z : a < k). ap (λ (p : ℕ). has p j) (f-other a z) ∙ b.falses_are a z j n)
          (eq-or-lt_of_le (omega arith));
      lanes_are = λ j n. ap (λ (q : Changed). has q.lanes j) e ∙ has-or c.lanes _ j
          ∙ ap₂ ◌||◌
          (b.lanes_are j n ∙ sym (any_ext k (decided_at t₁ f₁ j) (decided_at t f j) (λ a m. decided-other j a m)))
          (decided-here j)
          ∙ ap (λ (i : ℕ). any i (decided_at t₁ f₁ j)) (sym (add-one k));
      atoms_are = λ j a n m h. ap (λ (q : Changed). has q.atoms a) e
          ∙ has_with (not (eqb decided 0)) c.atoms k a
          ∙ ⊎_elim (atom-here j a h) (atom-other j a n h) (eq-or-lt_of_le (omega arith));
    }

  pub beginning_end : (t f : List ℕ) (c : Changed) (k : ℕ) → Beginning t f c k → k ≡ 64 → Opens ot of oh x y t f c
  beginning_end t f c k b e = record {
    sizes = b.sizes;
    trues_are = λ a l. b.trues_are a (omega arith);
    falses_are = λ a l. b.falses_are a (omega arith);
    lanes_are = λ j l. b.lanes_are j l ∙ ap (λ (i : ℕ). any i (decided_at t f j)) e;
    atoms_are = λ j a l m. b.atoms_are j a l (omega arith);
  }
