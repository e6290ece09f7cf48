-- The heads of a word decided one by one, in lanes: what is noted and what the heads left would note is always all.
-- Assumes nothing.
use mathlib.Core.Path.{◌≡◌, refl, sym, ap, ap₂, ◌∙◌}
use mathlib.Core.Bool.{Bool, true, false, ◌&&◌, ◌||◌, or-false, true≢false}
use mathlib.Core.List.{List}
use Prim.Native.Nat.{ℕ, ◌<◌}
use lib.Dec.{eqb}
use lib.ListN.{get_or}
use borrow.Author.Tests.{eqb-true, eqb-false}
use Rattle.words.specs.Below.{any}
use Rattle.words.specs.Bits.{has}
use Rattle.words.specs.OneBit.{without_bit, BitOf}
use Rattle.words.proofs.Below.{all-false}
use Rattle.words.proofs.Bits.{has-zero}
use Rattle.words.proofs.BitWalks.{without_here, without_other, any_without}
use Rattle.logic.specs.declared.value.Value.{Value}
use Rattle.logic.specs.Value.{is_true, is_false, is_decided}
use Rattle.round.specs.declared.redo.Changed.{Changed}
use Rattle.planes.specs.Planes.{at, Sizes}
use Rattle.round.specs.Redo.{open_at, ruled, fresh, Taken, Decided}
use Rattle.planes.proofs.Choosing.{or_move}

-- a bit that is left behind bit a is another one, and was left before
module _ (left a : ℕ) (b : BitOf left a) (i : ℕ) (h : BitOf (without_bit left a) i) where
  left_other : i ≡ a → ⊥
  left_other z = true≢false (sym h.there ∙ ap (has (without_bit left a)) z ∙ without_here left a b)

  left-before : BitOf left i
  left-before = record {
    small = h.small;
    there = sym (without_other left a b i h.small left_other) ∙ h.there;
  }

module _ (cl : List ℕ) (n heads : ℕ) (t f : List ℕ) where
  -- the atoms noted and those left are all
  pub record Deciding (ut uf : List ℕ) (c : Changed) (left : ℕ) : Type 0 where
    pub sizes : Sizes ut uf
    pub unseen : (a : ℕ) → BitOf left a → has c.atoms a ≡ false
    pub ups : (j a : ℕ) → j < 64 → a < 64
        → (has c.atoms a && at ut j a || fresh is_true cl n left t f j a) ≡ fresh is_true cl n heads t f j a
    pub downs : (j a : ℕ) → j < 64 → a < 64
        → (has c.atoms a && at uf j a || fresh is_false cl n left t f j a) ≡ fresh is_false cl n heads t f j a
    lanes_all : (j : ℕ) → j < 64
        → (any 64 (fresh is_decided cl n left t f j) || has c.lanes j) ≡ any 64 (fresh is_decided cl n heads t f j)

  pub deciding_start : (ut uf : List ℕ) → Sizes ut uf → Deciding ut uf (record { lanes = 0; atoms = 0 }) heads
  deciding_start ut uf s = record {
    sizes = s;
    unseen = λ a b. has-zero a;
    ups = λ j a l m. ap (λ (x : Bool). x && at ut j a || fresh is_true cl n heads t f j a) (has-zero a);
    downs = λ j a l m. ap (λ (x : Bool). x && at uf j a || fresh is_false cl n heads t f j a) (has-zero a);
    lanes_all = λ j l. ap (λ (x : Bool). any 64 (fresh is_decided cl n heads t f j) || x) (has-zero j)
        ∙ or-false (any 64 (fresh is_decided cl n heads t f j));
  }

  -- one plane of what is noted, by the test q
  module _ (q : Value → Bool) (u u₁ : List ℕ) (c r : Changed) (left a : ℕ) (b : BitOf left a)
      (e : has c.atoms a ≡ false) (j : ℕ)
      (here : (has r.atoms a && at u₁ j a) ≡ (open_at t f j a && q (ruled cl n t f j a)))
      (atoms-other : (i : ℕ) → (i ≡ a → ⊥) → has r.atoms i ≡ has c.atoms i)
      (other : (i : ℕ) → (i ≡ a → ⊥) → get_or u₁ i 0 ≡ get_or u i 0) where
    same_at : (has r.atoms a && at u₁ j a || fresh q cl n (without_bit left a) t f j a)
        ≡ (has c.atoms a && at u j a || fresh q cl n left t f j a)
    same_at =
        let x = open_at t f j a && q (ruled cl n t f j a) in
        ap₂ (λ (y z : Bool). y || z && x) here (without_here left a b) ∙ or-false x
        ∙ sym (ap₂ (λ (y z : Bool). y && at u j a || z && x) e b.there)

    plane_next : (i : ℕ) → i < 64 → (has r.atoms i && at u₁ j i || fresh q cl n (without_bit left a) t f j i)
        ≡ (has c.atoms i && at u j i || fresh q cl n left t f j i)
    plane_next i m = go (eqb i a) refl
      where
        go : (s : Bool) → eqb i a ≡ s → (has r.atoms i && at u₁ j i || fresh q cl n (without_bit left a) t f j i)
            ≡ (has c.atoms i && at u j i || fresh q cl n left t f j i)
        go true z = rw (eqb-true i a z) same_at
        go false z =
            let ne = eqb-false i a z in
            ap₂ (λ (y w : Bool). y || w)
            (ap₂ (λ (y : Bool) (w : ℕ). y && has w j) (atoms-other i ne) (other i ne))
            (ap (λ (y : Bool). y && (open_at t f j i && q (ruled cl n t f j i))) (without_other left a b i m ne))

  -- one head less is left, which changed some lanes
  lanes_next : (j : ℕ) (u w : Bool) (left a : ℕ) → BitOf left a
      → w ≡ (u || open_at t f j a && is_decided (ruled cl n t f j a))
      → (any 64 (fresh is_decided cl n (without_bit left a) t f j) || w)
      ≡ (any 64 (fresh is_decided cl n left t f j) || u)
  lanes_next j u w left a b e =
      let rest = any 64 (fresh is_decided cl n (without_bit left a) t f j) in
      ap (λ (y : Bool). rest || y) e
      ∙ or_move rest u (open_at t f j a && is_decided (ruled cl n t f j a))
      ∙ ap (λ (y : Bool). y || u)
      (sym (any_without left a b (λ i. open_at t f j i && is_decided (ruled cl n t f j i))))

  pub deciding_next : (ut uf : List ℕ) (c : Changed) (left a : ℕ) (ut₁ uf₁ : List ℕ) (r : Changed)
      → Deciding ut uf c left → BitOf left a → Taken cl n t f a ut uf c ut₁ uf₁ r
      → Deciding ut₁ uf₁ r (without_bit left a)
  deciding_next ut uf c left a ut₁ uf₁ r d b k = record {
    sizes = k.sizes;
    unseen = λ i h. k.atoms-other i (left_other left a b i h) ∙ d.unseen i (left-before left a b i h);
    ups = λ j i l m. plane_next is_true ut ut₁ c r left a b (d.unseen a b) j (k.up-here j l) k.atoms-other
        k.up-other i m ∙ d.ups j i l m;
    downs = λ j i l m. plane_next is_false uf uf₁ c r left a b (d.unseen a b) j (k.down-here j l) k.atoms-other
        k.down-other i m ∙ d.downs j i l m;
    lanes_all = λ j l. lanes_next j (has c.lanes j) (has r.lanes j) left a b (k.lanes_are j l)
        ∙ d.lanes_all j l;
  }

  pub deciding_end : (ut uf : List ℕ) (c : Changed) (left : ℕ) → Deciding ut uf c left → left ≡ 0
      → Decided cl n heads t f ut uf c
  deciding_end ut uf c left d e = record {
    sizes = d.sizes;
    ups = λ j a l m. sym (or-false (has c.atoms a && at ut j a))
        ∙ ap (λ (x : Bool). has c.atoms a && at ut j a || x) (sym (none is_true j a)) ∙ d.ups j a l m;
    downs = λ j a l m. sym (or-false (has c.atoms a && at uf j a))
        ∙ ap (λ (x : Bool). has c.atoms a && at uf j a || x) (sym (none is_false j a)) ∙ d.downs j a l m;
    lanes_are = λ j l.
        ap (λ (x : Bool). x || has c.lanes j)
        (sym (all-false 64 (fresh is_decided cl n left t f j) (λ i m. none is_decided j i)))
        ∙ d.lanes_all j l;
  }
    where
      none : (q : Value → Bool) (j a : ℕ) → fresh q cl n left t f j a ≡ false
      none q j a =
          ap (λ (x : Bool). x && (open_at t f j a && q (ruled cl n t f j a))) (ap (λ (x : ℕ). has x a) e ∙ has-zero a)
