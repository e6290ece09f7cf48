-- The count of a word's bits, and how it grows with the word. Assumes nothing.
use mathlib.Core.Path.{◌≡◌, refl, sym, ap, ap₂, ◌∙◌}
use mathlib.Core.Bool.{Bool, true, false, ◌&&◌, ◌||◌, or-true, true≢false}
use mathlib.Core.Logic.{◌⊎◌, inl, inr, ⊎_elim}
use Prim.Native.Nat.{ℕ, zero, suc, ◌+◌, ◌*◌, ◌/◌, ◌%◌, ◌^◌, ◌≤◌, ◌<◌}
use native.Mathlib.Nat.{pow-suc, eq-or-lt_of_le}
use native.Mathlib.Omega.{arith}
use lib.Arith.{lt-one}
use lib.Bits.{bit_or}
use lib.Count.{ones, ones_step}
use lib.Dec.{eqb}
use borrow.Author.Tests.{eqb-true, eq-eqb}
use Rattle.words.specs.Below.{sum}
use Rattle.words.specs.Bits.{odd, has, digit}
use Rattle.words.proofs.Bits.{has-low, has-half}
use Rattle.words.proofs.Words.{digit-le, has-or-one, or-one-lt}
use Rattle.words.proofs.Sums.{sum_ext, sum-add, sum-le, ones-sum}

-- each bit of a is one of b
abbrev pub Within : ℕ → ℕ → ℕ → Type 0
Within k a b = (i : ℕ) → i < k → has a i ≡ true → has b i ≡ true

low-le : (a b : ℕ) → (odd a ≡ true → odd b ≡ true) → a % 2 ≤ b % 2
low-le a b h = go (a % 2) refl
  where
    go : (m : ℕ) → a % 2 ≡ m → a % 2 ≤ b % 2
    go zero e = omega arith
    go (suc m) e = omega (arith, eqb-true (b % 2) 1 (h (eq-eqb (a % 2) 1 (omega arith))))

-- a word within another is the other, or has fewer bits
pub ones-grow : (k a b : ℕ) → a < 2 ^ k → b < 2 ^ k → Within k a b → (a ≡ b) ⊎ (ones a < ones b)
ones-grow zero a b h l s = inl (lt-one h ∙ sym (lt-one l))
ones-grow (suc k) a b h l s =
    go (ones-grow k (a / 2) (b / 2) (omega arith) (omega arith)
    (λ i m e. sym (has-half b i) ∙ s (suc i) (omega arith) (has-half a i ∙ e)))
  where
    p : 2 ^ suc k ≡ 2 ^ k * 2
    p = pow-suc 2 k

    low : a % 2 ≤ b % 2
    low = low-le a b (λ e. sym (has-low b) ∙ s 0 (omega arith) (has-low a ∙ e))

    go : (a / 2 ≡ b / 2) ⊎ (ones (a / 2) < ones (b / 2)) → (a ≡ b) ⊎ (ones a < ones b)
    go (inl e) =
        ⊎_elim
        (λ (q : a % 2 ≡ b % 2). inl (omega arith))
        (λ (q : a % 2 < b % 2). inr (omega (arith, ones_step a, ones_step b, ap ones e)))
        (eq-or-lt_of_le low)
    go (inr q) = inr (omega (arith, ones_step a, ones_step b, low))

-- a bit that is new makes one more at least
pub ones-more : (k w a : ℕ) → w < 2 ^ k → a < k → has w a ≡ false → ones w < ones (bit_or w (2 ^ a))
ones-more k w a h l n =
    ⊎_elim (λ (e : w ≡ bit_or w (2 ^ a)). absurd (true≢false (sym here ∙ ap (λ (x : ℕ). has x a) (sym e) ∙ n))) (λ q. q)
    (ones-grow k w (bit_or w (2 ^ a)) h (or-one-lt k w a h l)
    (λ i m e. has-or-one w a i ∙ ap (λ (t : Bool). t || eqb i a) e))
  where
    here : has (bit_or w (2 ^ a)) a ≡ true
    here = has-or-one w a a ∙ ap (λ (t : Bool). has w a || t) (eq-eqb a a refl) ∙ or-true (has w a)

-- two words with no bit in common: both counts are that of the bits of either
pub ones-joined : (k a b : ℕ) → a < 2 ^ k → b < 2 ^ k → ((i : ℕ) → i < k → (has a i && has b i) ≡ false)
    → ones a + ones b ≡ sum k (λ i. digit (has a i || has b i))
ones-joined k a b h l s =
    ap₂ ◌+◌ (ones-sum k a h) (ones-sum k b l)
    ∙ sum-add k (λ i. digit (has a i)) (λ i. digit (has b i))
    ∙ sum_ext k _ (λ i. digit (has a i || has b i)) (λ i m. digit_or (has a i) (has b i) (s i m))
  where
    digit_or : (x y : Bool) → (x && y) ≡ false → digit x + digit y ≡ digit (x || y)
    digit_or true true e = absurd (true≢false e)
    digit_or true false e = refl
    digit_or false y e = omega arith

pub ones-apart : (k a b : ℕ) → a < 2 ^ k → b < 2 ^ k → ((i : ℕ) → i < k → (has a i && has b i) ≡ false)
    → ones a + ones b ≤ k
ones-apart k a b h l s =
    let each = sum-le k 1 (λ i. digit (has a i || has b i)) (λ i m. digit-le (has a i || has b i)) in
    omega (arith, ones-joined k a b h l s, each)
