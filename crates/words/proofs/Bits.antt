-- Laws of `has`: the bits of a half, of the machine's operations, of one bit; same bits, same number. Each holds for
-- every bit number and width. Assumes nothing.
use mathlib.Core.Path.{◌≡◌, refl, sym, ap, ◌∙◌}
use mathlib.Core.Bool.{Bool, true, false, not, ◌&&◌, ◌||◌, true≢false}
use mathlib.Core.Logic.{⊎_elim}
use Prim.Native.Nat.{ℕ, zero, suc, ◌+◌, ◌-◌, ◌*◌, ◌/◌, ◌%◌, ◌^◌, ◌≤◌, ◌<◌}
use native.Mathlib.Nat.{mod-lt, zero-div, div-one, div-eq_of_lt, one-mul, pow-suc, add_comm}
use native.Mathlib.Nat.{not-suc-le-zero, le_of_suc-le-suc, zero-lt-suc, lt_of_lt_of_le}
use native.Mathlib.Numerals.{add-one}
use native.Mathlib.Omega.{arith}
use lib.Dec.{eqb, eqb-zero-suc, eqb-suc-zero, eqb-suc-suc}
use lib.Arith.{lt-one}
use lib.Pow.{shr-shr, shl_exact, pow_mono, pow_pos}
use lib.Bits.{bit_and, bit_or, bit_xor, and_shr, or_shr, xor_shr, and_mod, or_mod, xor_mod}
use borrow.Author.Tests.{eqb-true, eqb-false, eq-eqb, ne_eqb}
use Rattle.std.proofs.lemmas.Nat.{pow-add, div-mul-add}
use Rattle.words.specs.Bits.{odd, has}
use Rattle.words.proofs.Tests.{lt-or-le}

-- ---- the lowest bit, and the bits of the half
pub has-low : (w : ℕ) → has w 0 ≡ odd w
unfolding has
has-low w = ap odd (div-one w)

pub has-half : (w i : ℕ) → has w (suc i) ≡ has (w / 2) i
unfolding has
has-half w i = ap (λ (k : ℕ). odd (w / 2 ^ k)) (sym (add-one i) ∙ add_comm i 1) ∙ ap odd (sym (shr-shr w 1 i))

pub has-zero : (i : ℕ) → has 0 i ≡ false
unfolding has
has-zero i = ap odd (zero-div (2 ^ i))

pub has_above : (m w i : ℕ) → w < 2 ^ m → m ≤ i → has w i ≡ false
unfolding has
has_above m w i h l = ap odd (div-eq_of_lt (lt_of_lt_of_le h (pow_mono l)))

pub below_of_has : (m w i : ℕ) → w < 2 ^ m → has w i ≡ true → i < m
below_of_has m w i h e =
    ⊎_elim (λ (l : i < m). l) (λ (l : m ≤ i). absurd (true≢false (sym e ∙ has_above m w i h l))) (lt-or-le i m)

-- ---- an operation that goes bit by bit
module _ (op : ℕ → ℕ → ℕ) (f : Bool → Bool → Bool)
    (shr : (a b k : ℕ) → op a b / 2 ^ k ≡ op (a / 2 ^ k) (b / 2 ^ k))
    (low : (a b k : ℕ) → op a b % 2 ^ k ≡ op (a % 2 ^ k) (b % 2 ^ k))
    (one : (x y : ℕ) → x < 2 → y < 2 → eqb (op x y) 1 ≡ f (eqb x 1) (eqb y 1)) where
  has_op : (a b i : ℕ) → has (op a b) i ≡ f (has a i) (has b i)
  unfolding has
  has_op a b i =
      ap odd (shr a b i) ∙ ap (λ (x : ℕ). eqb x 1) (low (a / 2 ^ i) (b / 2 ^ i) 1)
      ∙ one (a / 2 ^ i % 2) (b / 2 ^ i % 2) (mod-lt (a / 2 ^ i) (zero-lt-suc 1)) (mod-lt (b / 2 ^ i) (zero-lt-suc 1))

-- a law of two bits, from its four cases
four : (P : ℕ → ℕ → Type 0) → P 0 0 → P 0 1 → P 1 0 → P 1 1 → (x y : ℕ) → x < 2 → y < 2 → P x y
four P a b c d zero zero h k = a
four P a b c d zero (suc zero) h k = b
four P a b c d (suc zero) zero h k = c
four P a b c d (suc zero) (suc zero) h k = d
four P a b c d zero (suc (suc y)) h k = absurd (not-suc-le-zero (le_of_suc-le-suc (le_of_suc-le-suc k)))
four P a b c d (suc zero) (suc (suc y)) h k = absurd (not-suc-le-zero (le_of_suc-le-suc (le_of_suc-le-suc k)))
four P a b c d (suc (suc x)) y h k = absurd (not-suc-le-zero (le_of_suc-le-suc (le_of_suc-le-suc h)))

pub has-and : (a b i : ℕ) → has (bit_and a b) i ≡ (has a i && has b i)
has-and =
    has_op bit_and ◌&&◌ and_shr and_mod (four (λ x y. eqb (bit_and x y) 1 ≡ (eqb x 1 && eqb y 1)) refl refl refl refl)

pub has-or : (a b i : ℕ) → has (bit_or a b) i ≡ (has a i || has b i)
has-or = has_op bit_or ◌||◌ or_shr or_mod (four (λ x y. eqb (bit_or x y) 1 ≡ (eqb x 1 || eqb y 1)) refl refl refl refl)

abbrev pub differs : Bool → Bool → Bool
differs true b = not b
differs false b = b

pub has_xor : (a b i : ℕ) → has (bit_xor a b) i ≡ differs (has a i) (has b i)
has_xor =
    has_op bit_xor differs xor_shr xor_mod
    (four (λ x y. eqb (bit_xor x y) 1 ≡ differs (eqb x 1) (eqb y 1)) refl refl refl refl)

-- ---- the complement in a word of k bits: what `!a` is at k = 64
odd-not : (x y : ℕ) → x % 2 + y % 2 ≡ 1 → odd x ≡ not (odd y)
odd-not x y e = go (y % 2) refl
  where
    go : (m : ℕ) → y % 2 ≡ m → odd x ≡ not (odd y)
    go zero p = rw p (eq-eqb (x % 2) 1 (omega arith))
    go (suc zero) p = rw p (ne_eqb (x % 2) 1 (omega arith))
    go (suc (suc m)) p = absurd (omega arith)

pub has-not : (k a i : ℕ) → a < 2 ^ k → i < k → has (2 ^ k - 1 - a) i ≡ not (has a i)
has-not zero a i h l = absurd (not-suc-le-zero l)
has-not (suc k) a zero h l =
    let e : 2 ^ suc k ≡ 2 ^ k * 2 = pow-suc 2 k in
    has-low _ ∙ odd-not (2 ^ suc k - 1 - a) a (omega arith) ∙ ap not (sym (has-low a))
has-not (suc k) a (suc i) h l =
    let e : 2 ^ suc k ≡ 2 ^ k * 2 = pow-suc 2 k in
    let q : (2 ^ suc k - 1 - a) / 2 ≡ 2 ^ k - 1 - a / 2 = omega arith in
    has-half _ i ∙ ap (λ (x : ℕ). has x i) q ∙ has-not k (a / 2) i (omega arith) (le_of_suc-le-suc l)
    ∙ ap not (sym (has-half a i))

-- ---- one bit: what `1 << j` is
pub shl_one : (w i : ℕ) → i < w → (1 * 2 ^ i) % 2 ^ w ≡ 2 ^ i
shl_one w i l = shl_exact 1 i w (omega arith) (omega arith) ∙ one-mul (2 ^ i)

pub has-single : (j i : ℕ) → has (2 ^ j) i ≡ eqb i j
has-single zero zero = has-low 1
has-single zero (suc i) = has-half 1 i ∙ has-zero i ∙ sym (eqb-suc-zero i)
has-single (suc j) zero =
    let e : 2 ^ suc j ≡ 2 ^ j * 2 = pow-suc 2 j in
    has-low _ ∙ ne_eqb (2 ^ suc j % 2) 1 (omega arith) ∙ sym (eqb-zero-suc j)
has-single (suc j) (suc i) =
    let e : 2 ^ suc j ≡ 2 ^ j * 2 = pow-suc 2 j in
    let q : 2 ^ suc j / 2 ≡ 2 ^ j = omega arith in
    has-half _ i ∙ ap (λ (x : ℕ). has x i) q ∙ has-single j i ∙ sym (eqb-suc-suc i j)

pub pow_pred : (n : ℕ) → 1 ≤ n → 2 ^ n ≡ 2 ^ (n - 1) * 2
pow_pred zero h = absurd (omega arith)
pow_pred (suc n) h = let e : suc n - 1 ≡ n = omega arith in rw e (pow-suc 2 n)

-- the highest number of 64 bits, shifted to n bits
pub top_shifted : (n : ℕ) → n ≤ 64 → (2 ^ 64 - 1) / 2 ^ (64 - n) + 1 ≡ 2 ^ n
top_shifted n h =
    let w = 2 ^ (64 - n) in
    let m = 2 ^ n - 1 in
    let k : 2 ^ n ≡ m + 1 = omega (arith, pow_pos n) in
    let s : 64 ≡ n + (64 - n) = omega arith in
    let p : 2 ^ 64 ≡ 2 ^ n * w = ap (λ (j : ℕ). 2 ^ j) s ∙ pow-add 2 n (64 - n) in
    let q : 2 ^ 64 ≡ m * w + w = p ∙ ap (λ (j : ℕ). j * w) k ∙ omega arith in
    let e : 2 ^ 64 - 1 ≡ m * w + (w - 1) = omega (arith, q, pow_pos (64 - n)) in
    let d = div-mul-add m w (w - 1) (omega (arith, pow_pos (64 - n))) in
    ap (λ (j : ℕ). j / w + 1) e ∙ ap (λ (j : ℕ). j + 1) d ∙ sym k

-- ---- two numbers of k bits with the same bits are the same
odd_inj : (a b : ℕ) → odd a ≡ odd b → a % 2 ≡ b % 2
odd_inj a b e = go (odd b) refl
  where
    go : (t : Bool) → odd b ≡ t → a % 2 ≡ b % 2
    go true p = eqb-true (a % 2) 1 (e ∙ p) ∙ sym (eqb-true (b % 2) 1 p)
    go false p =
        let x : a % 2 ≡ 1 → ⊥ = eqb-false (a % 2) 1 (e ∙ p) in
        let y : b % 2 ≡ 1 → ⊥ = eqb-false (b % 2) 1 p in
        omega (arith, x, y)

pub has_ext : (k a b : ℕ) → a < 2 ^ k → b < 2 ^ k → ((i : ℕ) → i < k → has a i ≡ has b i) → a ≡ b
has_ext zero a b h l e = lt-one h ∙ sym (lt-one l)
has_ext (suc k) a b h l e =
    let p : 2 ^ suc k ≡ 2 ^ k * 2 = pow-suc 2 k in
    let q : a / 2 ≡ b / 2 = has_ext k (a / 2) (b / 2) (omega arith) (omega arith)
    (λ i m. sym (has-half a i) ∙ e (suc i) (omega arith) ∙ has-half b i) in
    let r : a % 2 ≡ b % 2 = odd_inj a b (sym (has-low a) ∙ e 0 (omega arith) ∙ has-low b) in
    omega arith
