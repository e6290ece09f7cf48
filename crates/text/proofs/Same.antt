-- Laws of the comparison of bytes, of lists and by places. Assumes nothing.
use mathlib.Core.Path.{◌≡◌, refl, sym, ◌∙◌}
use mathlib.Core.Bool.{true, false}
use mathlib.Core.List.{List, [], ◌∷◌}
use Prim.Native.Nat.{ℕ, suc, ◌+◌, ◌≤◌, ◌<◌}
use native.Mathlib.Nat.{add-suc, add-zero}
use native.Mathlib.Numerals.{add-one}
use native.Mathlib.Omega.{arith}
use lib.Dec.{eqb}
use lib.ListN.{length, drop, get_or, drop_of_length-le}
use lib.Seq.{slice, slice-cons, slice_empty, drop-cons}
use Rattle.std.proofs.Common.{nat_eq}
use Rattle.std.specs.Cmp.Lexicographic.{pointwise}
use borrow.Author.Tests.{eq-eqb, ne_eqb, eqb-true}
use Rattle.words.proofs.Tests.{eqb_comm}
use Rattle.text.specs.Bytes.{same_bytes}
use Rattle.text.proofs.ByteLaws.{and_true_both}

pub same_refl : (l : List ℕ) → same_bytes l l ≡ true
unfolding same_bytes
same_refl [] = refl
same_refl (b ∷ l) = rw (eq-eqb b b refl, same_refl l)

pub same-eq : (l m : List ℕ) → same_bytes l m ≡ true → l ≡ m
unfolding same_bytes
same-eq [] [] h = refl
same-eq [] (c ∷ m) h = let z : ◌≡◌ {A = ℕ} 0 1 = cc in absurd (omega arith)
same-eq (b ∷ l) [] h = let z : ◌≡◌ {A = ℕ} 0 1 = cc in absurd (omega arith)
same-eq (b ∷ l) (c ∷ m) h =
    let k = and_true_both (eqb b c) (same_bytes l m) h in
    rw (eqb-true b c k.0, same-eq l m k.1)

pub same_comm : (l m : List ℕ) → same_bytes l m ≡ same_bytes m l
unfolding same_bytes
same_comm [] [] = refl
same_comm [] (c ∷ m) = refl
same_comm (b ∷ l) [] = refl
same_comm (b ∷ l) (c ∷ m) = rw (eqb_comm b c, same_comm l m)

-- std's comparison of slices is that of bytes
pub same-pointwise : (v w : List ℕ) → pointwise nat_eq v w ≡ same_bytes v w
unfolding same_bytes
same-pointwise [] [] = refl
same-pointwise [] (c ∷ w) = refl
same-pointwise (b ∷ v) [] = refl
same-pointwise (b ∷ v) (c ∷ w) = rw (same-pointwise v w)

-- the part of l from a to e is w if what is left of it behind its first i entries is what is left of w
pub record SameFrom (l : List ℕ) (a e : ℕ) (w : List ℕ) (i : ℕ) : Type 0 where
  pub within : i ≤ length w
  pub ends : a + length w ≡ e
  pub inside : e ≤ length l
  pub same-is : same_bytes (slice a e l) w ≡ same_bytes (slice (a + i) e l) (drop i w)

pub same_none : (l : List ℕ) (a e : ℕ) (w : List ℕ) → a + length w ≡ e → e ≤ length l → SameFrom l a e w 0
same_none l a e w q k = record { within = omega arith; ends = q; inside = k; same-is = rw add-zero }

module _ {l : List ℕ} {a e : ℕ} {w : List ℕ} {i : ℕ} (h : SameFrom l a e w i) where
  pub same_ends : length w ≤ i → true ≡ same_bytes (slice a e l) w
  unfolding same_bytes
  same_ends n =
      let q : a + i ≡ e = omega arith in
      sym (h.same-is ∙ rw (q, drop_of_length-le w n, slice_empty))

  module _ (n : i < length w) where
    left_is : slice (a + i) e l ≡ get_or l (a + i) 0 ∷ slice (suc (a + i)) e l
    left_is = slice-cons (a + i) e l 0 (omega arith) h.inside

    pub same_more : get_or l (a + i) 0 ≡ get_or w i 0 → SameFrom l a e w (i + 1)
    unfolding same_bytes
    same_more q = record {
      within = omega arith;
      ends = h.ends;
      inside = h.inside;
      same-is = h.same-is ∙ rw (left_is, drop-cons w i 0 n, eq-eqb _ _ q, add-one, add-suc);
    }

    pub same-stops : (get_or l (a + i) 0 ≡ get_or w i 0 → ⊥) → false ≡ same_bytes (slice a e l) w
    unfolding same_bytes
    same-stops q = sym (h.same-is ∙ rw (left_is, drop-cons w i 0 n, ne_eqb _ _ q))
