-- Laws of numbers in decimal: their last digit and those in front of it, and how many there are. Assumes nothing.
use mathlib.Core.Path.{◌≡◌, refl, sym, ap, ◌∙◌}
use mathlib.Core.Bool.{Bool, true, false}
use mathlib.Core.List.{List, [], ◌∷◌, ◌++◌}
use mathlib.Core.Logic.{◌⊎◌, ⊎_elim, inl, inr}
use Prim.Native.Nat.{ℕ, zero, suc, ◌/◌, ◌%◌, ◌^◌, ◌≤◌, ◌<◌}
use native.Mathlib.Nat.{pow-suc, div-lt_iff_lt-mul, eq-zero-or-pos}
use native.Mathlib.Omega.{arith}
use lib.Dec.{ltb}
use lib.ListN.{length, length-append}
use borrow.Author.Tests.{lt-ltb, le-ltb}
use Rattle.output.specs.Decimal.{digit_byte, lead, decimal_within, decimal}

-- a number of one digit, or the digits in front of its last
one-or-more : (n : ℕ) → (n < 10) ⊎ (10 ≤ n)
one-or-more n = ⊎_elim (λ e. inl (omega arith)) (λ h. inr (omega arith)) (eq-zero-or-pos (n / 10))

front_below : (k n : ℕ) → n < 10 ^ suc k → n / 10 < 10 ^ k
front_below k n h = (div-lt_iff_lt-mul {k = 10} (omega arith)).1 (rw pow-suc at h)

-- decimal_within

within-one : (k n : ℕ) → n < 10 → decimal_within k n ≡ digit_byte (n % 10) ∷ []
unfolding decimal_within
within-one zero n h = refl
within-one (suc k) n h = rw (lt-ltb n 10 h)

within_more : (k n : ℕ) → 10 ≤ n → decimal_within (suc k) n ≡ decimal_within k (n / 10) ++ (digit_byte (n % 10) ∷ [])
unfolding decimal_within
within_more k n h = rw (le-ltb n 10 h)

-- the limit does not change the digits of a number that has no more of them
within_enough : (k n : ℕ) → n < 10 ^ suc k → decimal_within (suc k) n ≡ decimal_within k n
unfolding decimal_within
within_enough zero n h = rw (lt-ltb n 10 h)
within_enough (suc k) n h = rw (within_enough k (n / 10) (front_below (suc k) n h))

lead-length : (t : Bool) (l : List ℕ) (d k : ℕ) → length l ≤ k → length (lead t l d) ≤ suc k
lead-length true l d k h = omega arith
lead-length false l d k h = rw length-append (omega arith)

within-length : (k n : ℕ) → length (decimal_within k n) ≤ suc k
unfolding decimal_within
within-length zero n = omega arith
within-length (suc k) n = lead-length (ltb n 10) _ (n % 10) (suc k) (within-length k (n / 10))

within-short : (j k n : ℕ) → n < 10 ^ suc k → length (decimal_within j n) ≤ suc k
unfolding decimal_within
within-short j zero n h = rw (within-one j n h) (omega arith)
within-short zero (suc k) n h = omega (arith, within-length zero n)
within-short (suc j) (suc k) n h =
    lead-length (ltb n 10) _ (n % 10) (suc k) (within-short j k (n / 10) (front_below (suc k) n h))

lead-some : (t : Bool) (l : List ℕ) (d : ℕ) → 0 < length (lead t l d)
lead-some true l d = omega arith
lead-some false l d = rw length-append (omega arith)

-- what holds of one digit, and with a last digit of those in front of it, holds of every number within the limit
pub within_induct : (P : ℕ → List ℕ → Type 0) → ((n : ℕ) → n < 10 → P n (digit_byte (n % 10) ∷ []))
    → ((n : ℕ) (l : List ℕ) → 10 ≤ n → P (n / 10) l → P n (l ++ (digit_byte (n % 10) ∷ [])))
    → (k n : ℕ) → n < 10 ^ suc k → P n (decimal_within k n)
within_induct P one more zero n h = rw (within-one zero n h) (one n h)
within_induct P one more (suc k) n h =
    let front = within_induct P one more k (n / 10) (front_below (suc k) n h) in
    ⊎_elim (λ l. rw (within-one (suc k) n l) (one n l)) (λ l. rw (within_more k n l) (more n _ l front)) (one-or-more n)

-- decimal

pub decimal-one : (n : ℕ) → n < 10 → decimal n ≡ digit_byte (n % 10) ∷ []
unfolding decimal
decimal-one n h = within-one _ n h

pub decimal-more : (n : ℕ) → 10 ≤ n → n < 10 ^ 20 → decimal n ≡ decimal (n / 10) ++ (digit_byte (n % 10) ∷ [])
unfolding decimal
decimal-more n h k =
    within_more _ n h
    ∙ ap (λ (l : List ℕ). l ++ (digit_byte (n % 10) ∷ [])) (sym (within_enough _ (n / 10) (front_below 19 n k)))

pub decimal-length : (n : ℕ) → length (decimal n) ≤ 20
unfolding decimal
decimal-length n = within-length 19 n

pub decimal-short : (k n : ℕ) → n < 10 ^ suc k → length (decimal n) ≤ suc k
unfolding decimal
decimal-short k n h = within-short 19 k n h

-- there is a digit
pub decimal-some : (n : ℕ) → 0 < length (decimal n)
unfolding decimal decimal_within
decimal-some n = lead-some (ltb n 10) _ (n % 10)
