-- Laws of one head in lanes: the lanes in which it changed, and where its rules decide it. Assumes nothing.
use mathlib.Core.Path.{◌≡◌, refl, sym, ap, ap₂, ◌∙◌}
use mathlib.Core.Bool.{Bool, true, false, not, ◌&&◌, ◌||◌, or-false, or-true, and-true, and-false, and_comm}
use mathlib.Core.Bool.{and-or_distrib_left, false≢true}
use mathlib.Core.List.{List}
use Prim.Native.Nat.{ℕ, ◌^◌, ◌<◌}
use native.Mathlib.Omega.{arith}
use lib.Bits.{bit_and, bit_or, or_lt}
use lib.Dec.{eqb}
use lib.ListN.{length, get_or, set, length-set}
use lib.Seq.{get_or-set_same, get_or-set_other}
use borrow.Author.Tests.{eqb-true, eq-eqb, ne_eqb}
use Rattle.words.specs.Bits.{has}
use Rattle.words.specs.OneBit.{with_bit}
use Rattle.words.proofs.Bits.{has-zero, has-and, has-or, has_ext}
use Rattle.words.proofs.BitWalks.{has_with}
use Rattle.logic.specs.Value.{is_true, is_false, is_decided}
use Rattle.planes.specs.declared.plane.Lanes.{Lanes}
use Rattle.round.specs.declared.redo.Changed.{Changed}
use Rattle.planes.specs.Planes.{at, Sizes, Worth}
use Rattle.round.specs.Redo.{noted_with, open_at, Noted, ruled, Taken}

-- ---- the lanes in which an atom changed
pub noted-none : (c : Changed) (a m : ℕ) → c.lanes < 2 ^ 64 → m ≡ 0 → c ≡ noted_with c a m
noted-none c a m h e =
    let z : c.lanes ≡ bit_or c.lanes m =
    has_ext 64 c.lanes (bit_or c.lanes m) h (or_lt 64 _ _ h (omega arith))
    (λ j l. sym (has-or c.lanes m j
    ∙ ap (λ (x : Bool). has c.lanes j || x) (ap (λ (w : ℕ). has w j) e ∙ has-zero j)
    ∙ or-false (has c.lanes j))) in
    let q : c.atoms ≡ with_bit (not (eqb m 0)) c.atoms a =
    ap (λ (t : Bool). with_bit (not t) c.atoms a) (sym (eq-eqb m 0 e)) in
    λ i. record { lanes = z i; atoms = q i }

pub noted-some : (c : Changed) (a m : ℕ) → (m ≡ 0 → ⊥)
    → record { lanes = bit_or c.lanes m; atoms = bit_or c.atoms (2 ^ a) } ≡ noted_with c a m
noted-some c a m n =
    ap (λ (t : Bool). record { lanes = bit_or c.lanes m; atoms = with_bit (not t) c.atoms a })
    (sym (ne_eqb m 0 n))

-- ---- one head taken
module _ (cl : List ℕ) (n : ℕ) (t f : List ℕ) where
  -- a head that is decided in each lane
  pub taken_none : (a free : ℕ) (ut uf : List ℕ) (c : Changed) → Sizes ut uf → has c.atoms a ≡ false
      → ((j : ℕ) → j < 64 → has free j ≡ open_at t f j a) → free ≡ 0 → Taken cl n t f a ut uf c ut uf c
  taken_none a free ut uf c s e h z = record {
    sizes = s;
    up-here = λ j l. ap (λ (x : Bool). x && at ut j a) e ∙ sym (shut j l (is_true (ruled cl n t f j a)));
    down-here = λ j l. ap (λ (x : Bool). x && at uf j a) e ∙ sym (shut j l (is_false (ruled cl n t f j a)));
    atoms-other = λ b ne. refl;
    up-other = λ b ne. refl;
    down-other = λ b ne. refl;
    lanes_are = λ j l. sym (ap (λ (x : Bool). has c.lanes j || x) (shut j l (is_decided (ruled cl n t f j a)))
        ∙ or-false (has c.lanes j));
  }
    where
      shut : (j : ℕ) → j < 64 → (x : Bool) → (open_at t f j a && x) ≡ false
      shut j l x = ap (λ (y : Bool). y && x) (sym (h j l) ∙ ap (λ (w : ℕ). has w j) z ∙ has-zero j)

  -- a head that is undecided in some lane
  module _ (a free : ℕ) (ut uf : List ℕ) (c : Changed) (v : Lanes) (ut₁ uf₁ : List ℕ) (r : Changed) (small : a < 64)
      (s : Sizes ut uf) (e : has c.atoms a ≡ false) (h : (j : ℕ) → j < 64 → has free j ≡ open_at t f j a)
      (w : Worth v (λ j. ruled cl n t f j a)) (k : Noted c a free v ut uf ut₁ uf₁ r) where
    abbrev up : ℕ
    up = bit_and v.trues free

    abbrev down : ℕ
    down = bit_and v.falses free

    up-bit : (j : ℕ) → j < 64 → has up j ≡ (open_at t f j a && is_true (ruled cl n t f j a))
    up-bit j l =
        has-and v.trues free j ∙ ap₂ ◌&&◌ (w j l).is_true (h j l)
        ∙ and_comm (is_true (ruled cl n t f j a)) (open_at t f j a)

    down-bit : (j : ℕ) → j < 64 → has down j ≡ (open_at t f j a && is_false (ruled cl n t f j a))
    down-bit j l =
        has-and v.falses free j ∙ ap₂ ◌&&◌ (w j l).is_false (h j l)
        ∙ and_comm (is_false (ruled cl n t f j a)) (open_at t f j a)

    abbrev m : ℕ
    m = bit_or up down

    some-bit : (j : ℕ) → j < 64 → has m j ≡ (open_at t f j a && is_decided (ruled cl n t f j a))
    some-bit j l =
        has-or up down j ∙ ap₂ ◌||◌ (up-bit j l) (down-bit j l)
        ∙ sym (and-or_distrib_left (open_at t f j a) (is_true (ruled cl n t f j a)) (is_false (ruled cl n t f j a)))

    atom-here : has r.atoms a ≡ not (eqb m 0)
    atom-here =
        ap (λ (x : Changed). has x.atoms a) k.noted ∙ has_with (not (eqb m 0)) c.atoms a a
        ∙ ap₂ (λ (x y : Bool). x || not (eqb m 0) && y) e (eq-eqb a a refl) ∙ and-true (not (eqb m 0))

    -- a word of which m has the bits
    noted-bit : (u j : ℕ) → (has u j ≡ true → has m j ≡ true) → (has r.atoms a && has u j) ≡ has u j
    noted-bit u j g = ap (λ (x : Bool). x && has u j) atom-here ∙ go (eqb m 0) refl (has u j) refl
      where
        go : (x : Bool) → eqb m 0 ≡ x → (y : Bool) → has u j ≡ y → (not x && y) ≡ y
        go false z y p = refl
        go true z false p = refl
        go true z true p =
            absurd (false≢true (sym (ap (λ (i : ℕ). has i j) (eqb-true m 0 z) ∙ has-zero j) ∙ g p))

    written : (u u₁ : List ℕ) (x : ℕ) → length u ≡ 64 → u₁ ≡ set u a x → get_or u₁ a 0 ≡ x
    written u u₁ x z q = ap (λ (y : List ℕ). get_or y a 0) q ∙ get_or-set_same u a x 0 (omega (arith, z))

    other-atom : (b : ℕ) → (b ≡ a → ⊥) → has r.atoms b ≡ has c.atoms b
    other-atom b ne =
        ap (λ (x : Changed). has x.atoms b) k.noted ∙ has_with (not (eqb m 0)) c.atoms a b
        ∙ ap (λ (x : Bool). has c.atoms b || not (eqb m 0) && x) (ne_eqb b a ne)
        ∙ ap (λ (x : Bool). has c.atoms b || x) (and-false (not (eqb m 0))) ∙ or-false (has c.atoms b)

    pub taken-some : Taken cl n t f a ut uf c ut₁ uf₁ r
    taken-some = record {
      sizes = record {
        first-size = ap length k.up_is ∙ length-set ut a up ∙ s.first-size;
        second-size = ap length k.down_is ∙ length-set uf a down ∙ s.second-size;
      };
      up-here = λ j l. ap (λ (x : ℕ). has r.atoms a && has x j)
          (written ut ut₁ up s.first-size k.up_is)
          ∙ noted-bit up j (λ p. has-or up down j ∙ ap (λ (x : Bool). x || has down j) p) ∙ up-bit j l;
      down-here = λ j l. ap (λ (x : ℕ). has r.atoms a && has x j)
          (written uf uf₁ down s.second-size k.down_is)
          ∙ noted-bit down j
          (λ p. has-or up down j ∙ ap (λ (x : Bool). has up j || x) p ∙ or-true (has up j)) ∙ down-bit j l;
      atoms-other = other-atom;
      up-other = λ b ne. ap (λ (x : List ℕ). get_or x b 0) k.up_is ∙ get_or-set_other ut a b up 0 ne;
      down-other = λ b ne. ap (λ (x : List ℕ). get_or x b 0) k.down_is ∙ get_or-set_other uf a b down 0 ne;
      lanes_are = λ j l. ap (λ (x : Changed). has x.lanes j) k.noted ∙ has-or c.lanes m j
          ∙ ap (λ (x : Bool). has c.lanes j || x) (some-bit j l);
    }
