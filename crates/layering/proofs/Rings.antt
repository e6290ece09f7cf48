-- Laws of rings: a ring has no numbering, and at most as many atoms as there are. Assumes nothing.
use mathlib.Core.Path.{◌≡◌, refl, sym, ap, ◌∙◌}
use mathlib.Core.Bool.{Bool, true, false, true≢false}
use mathlib.Core.List.{List}
use mathlib.Core.Logic.{⊎_elim}
use Prim.Native.Nat.{ℕ, zero, suc, ◌+◌, ◌^◌, ◌≤◌, ◌<◌}
use native.Mathlib.Omega.{arith}
use lib.Bits.{bit_or}
use lib.Count.{ones, ones-le}
use lib.Dec.{eqb}
use lib.ListN.{length, get_or}
use lib.Pow.{pow_pos}
use borrow.Author.Tests.{eqb-true}
use Rattle.words.specs.Bits.{has}
use Rattle.words.proofs.Tests.{true_or_false, or_true_l}
use Rattle.words.proofs.Bits.{has-zero}
use Rattle.words.proofs.Words.{has-or-one, or-one-lt}
use Rattle.words.proofs.Counts.{ones-more}
use Rattle.layering.specs.Layers.{Numbering, Ring}

module _ (n : ℕ) (r : ℕ → ℕ → Bool) (l : List ℕ) (g : Ring n r l) where
  -- ---- numbers fall by one a step at least
  module _ (v : ℕ → ℕ) (h : Numbering n r v) where
    falls : (i : ℕ) → i < length l → v (get_or l i 0) + i ≤ v (get_or l 0 0)
    falls zero m = omega arith
    falls (suc i) m =
        let e : suc i ≡ i + 1 = omega arith in
        let o : i + 1 < length l = omega arith in
        let d = h (get_or l i 0) (get_or l (i + 1) 0) (g.atoms i (omega arith)) (g.atoms (i + 1) o) (g.linked i o) in
        omega (arith, falls i (omega arith), d, ap (λ (k : ℕ). v (get_or l k 0)) e)

    pub ring_no_numbering : ⊥
    ring_no_numbering = go (length l) refl
      where
        go : (m : ℕ) → length l ≡ m → ⊥
        go zero e = omega (arith, g.some, e)
        go (suc m) e =
            let k : m + 1 ≡ length l = omega (arith, e) in
            let s : m < length l = omega (arith, k) in
            let d = h (get_or l m 0) (get_or l 0 0) (g.atoms m s) (g.atoms 0 g.some) (g.closed m k) in
            omega (arith, falls m s, d)

  -- ---- the word of the first k atoms has k bits at least
  record FirstOf (k : ℕ) : Type 0 where
    pub seen : ℕ
    pub fits : seen < 2 ^ n
    pub many : k ≤ ones seen
    pub found : (a : ℕ) → has seen a ≡ true → (j : ℕ) × (j < k) × (get_or l j 0 ≡ a)

  -- one atom more
  first_more : (k : ℕ) → k < length l → FirstOf k → FirstOf (suc k)
  first_more k m f = record {
    seen = bit_or f.seen (2 ^ get_or l k 0);
    fits = or-one-lt n f.seen (get_or l k 0) f.fits (g.atoms k m);
    many = omega (arith, f.many, ones-more n f.seen (get_or l k 0) f.fits (g.atoms k m) new);
    found = λ b e.
        ⊎_elim (λ (q : eqb b (get_or l k 0) ≡ true). (k, omega arith, sym (eqb-true b (get_or l k 0) q)))
        (λ (q : eqb b (get_or l k 0) ≡ false).
        let p = f.found b (or_true_l (has f.seen b) _ q (sym (has-or-one f.seen (get_or l k 0) b) ∙ e)) in
        (p.0, omega (arith, p.1), p.2)) (true_or_false (eqb b (get_or l k 0)));
  }
    where
      new : has f.seen (get_or l k 0) ≡ false
      new =
          ⊎_elim (λ (e : has f.seen (get_or l k 0) ≡ true).
          let p = f.found (get_or l k 0) e in absurd (g.distinct p.0 k p.1 m p.2))
          (λ e. e) (true_or_false (has f.seen (get_or l k 0)))

  first_of : (k : ℕ) → k ≤ length l → FirstOf k
  first_of zero m = record {
    seen = 0;
    fits = pow_pos n;
    many = omega arith;
    found = λ a e. absurd (true≢false (sym e ∙ has-zero a));
  }
  first_of (suc k) m = first_more k m (first_of k (omega arith))

  pub ring-few : length l ≤ n
  ring-few = let f = first_of (length l) (omega arith) in omega (arith, f.many, ones-le n f.seen f.fits)
