-- The lowest bit of a word, a bit added, and the word without a bit: what a walk over a word's bits goes by.
-- Assumes nothing.
use mathlib.Core.Path.{◌≡◌, refl, sym, ap, ◌∙◌}
use mathlib.Core.Bool.{Bool, true, false, not, ◌&&◌, ◌||◌, and-true, and-false, or-false, true≢false, false≢true}
use mathlib.Core.Logic.{⊎_elim}
use Prim.Native.Nat.{ℕ, zero, suc, ◌*◌, ◌/◌, ◌%◌, ◌^◌, ◌<◌}
use native.Mathlib.Nat.{pow-suc, eq-or-lt_of_le, mod-lt, zero-lt-suc}
use native.Mathlib.Omega.{arith}
use lib.Arith.{lt-one}
use lib.Bits.{and_le_l}
use lib.Count.{count_trailing_zeros, under}
use lib.Dec.{eqb}
use borrow.Author.Tests.{eqb-true, eq-eqb, ne_eqb}
use Rattle.words.specs.Below.{any}
use Rattle.words.specs.Bits.{has}
use Rattle.words.specs.OneBit.{with_bit, without_bit, BitOf, LowestOf}
use Rattle.words.proofs.Tests.{Gives, and_true_l}
use Rattle.words.proofs.Below.{any_ext, any-or, any_at}
use Rattle.words.proofs.Bits.{has-low, has-half}
use Rattle.words.proofs.Words.{has-or-one, or-one-lt, has_without_one}

-- ---- the lowest bit
-- r is the number of the lowest of the k bits of w
abbrev Found : ℕ → ℕ → ℕ → Type 0
Found k w r = (r < k) × (has w r ≡ true) × ((j : ℕ) → j < r → has w j ≡ false)

-- from the half's lowest bit
found_under : (k w m : ℕ) → w % 2 ≡ m → (m ≡ 0 → Found k (w / 2) (count_trailing_zeros k (w / 2)))
    → Found (suc k) w (under m (count_trailing_zeros k (w / 2)))
found_under k w zero e f = (omega (arith, (f refl).0), has-half w _ ∙ (f refl).1, below)
  where
    below : (j : ℕ) → j < suc (count_trailing_zeros k (w / 2)) → has w j ≡ false
    below zero l = has-low w ∙ ap (λ (x : ℕ). eqb x 1) e
    below (suc j) l = has-half w j ∙ (f refl).2 j (omega arith)
found_under k w (suc m) e f = (
  omega arith,
  has-low w ∙ eq-eqb (w % 2) 1 (omega (arith, mod-lt w (zero-lt-suc 1))),
  λ j l. absurd (omega arith),
)

found : (k w : ℕ) → w < 2 ^ k → (w ≡ 0 → ⊥) → Found k w (count_trailing_zeros k w)
unfolding count_trailing_zeros
found zero w h ne = absurd (ne (lt-one h))
found (suc k) w h ne =
    let e : 2 ^ suc k ≡ 2 ^ k * 2 = pow-suc 2 k in
    found_under k w (w % 2) refl (λ z. found k (w / 2) (omega arith) (λ q. ne (omega arith)))

pub lowest_bit_of : (w : ℕ) → w < 2 ^ 64 → (w ≡ 0 → ⊥) → LowestOf w (count_trailing_zeros 64 w)
lowest_bit_of w h ne =
    let r = found 64 w h ne in record { bit = record { small = r.0; there = r.1 }; none_below = r.2 }

-- ---- a bit added where a test holds
pub has_with : (t : Bool) (w a i : ℕ) → has (with_bit t w a) i ≡ (has w i || t && eqb i a)
has_with true w a i = has-or-one w a i
has_with false w a i = sym (or-false (has w i))

pub with_lt : (t : Bool) (k w a : ℕ) → w < 2 ^ k → a < k → with_bit t w a < 2 ^ k
with_lt true k w a h l = or-one-lt k w a h l
with_lt false k w a h l = h

-- ---- one bit less
module _ (w i : ℕ) (b : BitOf w i) where
  pub without_here : has (without_bit w i) i ≡ false
  without_here =
      has_without_one 64 w i i b.small b.small
      ∙ ap (λ (t : Bool). has w i && not t) (eq-eqb i i refl) ∙ and-false (has w i)

  pub without_other : (j : ℕ) → j < 64 → (j ≡ i → ⊥) → has (without_bit w i) j ≡ has w j
  without_other j l ne =
      has_without_one 64 w i j b.small l
      ∙ ap (λ (t : Bool). has w j && not t) (ne_eqb j i ne) ∙ and-true (has w j)

  pub without_within : (j : ℕ) → BitOf (without_bit w i) j → BitOf w j
  without_within j h = record {
    small = h.small;
    there = and_true_l (has w j) _ (sym (has_without_one 64 w i j b.small h.small) ∙ h.there);
  }

  pub without_less : without_bit w i < w
  without_less =
      ⊎_elim
      (λ (q : without_bit w i ≡ w).
      absurd (true≢false (sym b.there ∙ ap (λ (x : ℕ). has x i) (sym q) ∙ without_here)))
      (λ q. q) (eq-or-lt_of_le (and_le_l w _))

  -- some bit of w passes a test: bit i, or one of the others
  pub any_without : (p : ℕ → Bool)
      → any 64 (λ j. has w j && p j) ≡ (any 64 (λ j. has (without_bit w i) j && p j) || p i)
  any_without p =
      any_ext 64 _ _
      (λ j l. split (has w j) (p j) (eqb j i) (λ e. ap (has w) (eqb-true j i e) ∙ b.there)
      ∙ ap (λ (t : Bool). t && p j || p j && eqb j i) (sym (has_without_one 64 w i j b.small l)))
      ∙ any-or 64 (λ j. has (without_bit w i) j && p j) (λ j. p j && eqb j i)
      ∙ ap (λ (t : Bool). any 64 (λ j. has (without_bit w i) j && p j) || t) (any_at 64 p i b.small)
    where
      split : (s q t : Bool) → Gives t s → (s && q) ≡ ((s && not t) && q || q && t)
      split true true true g = refl
      split true true false g = refl
      split true false true g = refl
      split true false false g = refl
      split false q true g = absurd (false≢true (g refl))
      split false q false g = sym (and-false q)
