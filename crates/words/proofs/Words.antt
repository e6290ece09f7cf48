-- A number as the word of its bits: laws of `word`, of the test for zero, and of a bit added or taken away.
-- Assumes nothing.
use mathlib.Core.Path.{◌≡◌, refl, sym, ap, ◌∙◌}
use mathlib.Core.Bool.{Bool, true, false, not, ◌&&◌, ◌||◌, not-not, false≢true}
use mathlib.Core.Logic.{⊎_elim}
use Prim.Native.Nat.{ℕ, zero, suc, ◌+◌, ◌-◌, ◌*◌, ◌/◌, ◌%◌, ◌^◌, ◌≤◌, ◌<◌}
use native.Mathlib.Nat.{not-suc-le-zero, le_of_suc-le-suc, pow-suc, lt_of_lt_of_le, lt_of_le_of_lt}
use native.Mathlib.Omega.{arith}
use lib.Dec.{eqb, ltb}
use lib.Pow.{pow_pos, pow-lt, pow_mono}
use lib.Bits.{bit_and, bit_or, and_le_l, or_lt}
use borrow.Author.Tests.{eq-eqb, ne_eqb, lt-ltb, le-ltb}
use Rattle.words.specs.Below.{any}
use Rattle.words.specs.Bits.{odd, has, digit, word}
use Rattle.words.proofs.Tests.{lt-or-le}
use Rattle.words.proofs.Below.{any_ext, any_false, all-false, any_at}
use Rattle.words.proofs.Bits.{has-low, has-half, has-zero, has_above}
use Rattle.words.proofs.Bits.{has-and, has-or, has-not, has-single, has_ext}

digit_low : (x : ℕ) (b : Bool) → odd (x * 2 + digit b) ≡ b
digit_low x true = eq-eqb ((x * 2 + 1) % 2) 1 (omega arith)
digit_low x false = ne_eqb ((x * 2 + 0) % 2) 1 (omega arith)

pub digit-le : (b : Bool) → digit b ≤ 1
digit-le true = omega arith
digit-le false = omega arith

-- ---- the word of k bits
pub word_lt : (k : ℕ) (p : ℕ → Bool) → word k p < 2 ^ k
unfolding word
word_lt zero p = omega arith
word_lt (suc k) p =
    let e : 2 ^ suc k ≡ 2 ^ k * 2 = pow-suc 2 k in
    let q = word_lt k (λ i. p (suc i)) in
    let d = digit-le (p 0) in
    omega arith

pub has_word : (k : ℕ) (p : ℕ → Bool) (i : ℕ) → i < k → has (word k p) i ≡ p i
unfolding word
has_word zero p i l = absurd (not-suc-le-zero l)
has_word (suc k) p zero l = has-low _ ∙ digit_low (word k (λ i. p (suc i))) (p 0)
has_word (suc k) p (suc i) l =
    let d = digit-le (p 0) in
    let q : (word k (λ i. p (suc i)) * 2 + digit (p 0)) / 2 ≡ word k (λ i. p (suc i)) = omega arith in
    has-half _ i ∙ ap (λ (x : ℕ). has x i) q ∙ has_word k (λ i. p (suc i)) i (le_of_suc-le-suc l)

-- a number is the word of its bits
pub is_word : (k w : ℕ) (p : ℕ → Bool) → w < 2 ^ k → ((i : ℕ) → i < k → has w i ≡ p i) → w ≡ word k p
is_word k w p h e = has_ext k w (word k p) h (word_lt k p) (λ i l. e i l ∙ sym (has_word k p i l))

pub word_ext : (k : ℕ) (p q : ℕ → Bool) → ((i : ℕ) → i < k → p i ≡ q i) → word k p ≡ word k q
word_ext k p q e = is_word k (word k p) q (word_lt k p) (λ i l. has_word k p i l ∙ e i l)

-- a number with no bit from m on is below 2 ^ m
pub lt_of_bits : (k m w : ℕ) → m ≤ k → w < 2 ^ k → ((i : ℕ) → m ≤ i → i < k → has w i ≡ false) → w < 2 ^ m
lt_of_bits k m w l h e =
    rw (has_ext k w (word m (has w)) h (lt_of_lt_of_le (word_lt m (has w)) (pow_mono l))
    (λ i j. ⊎_elim
    (λ (q : i < m). sym (has_word m (has w) i q))
    (λ (q : m ≤ i). e i q j ∙ sym (has_above m (word m (has w)) i (word_lt m (has w)) q))
    (lt-or-le i m)))
    (word_lt m (has w))

-- ---- the lowest n bits: the number below 2 ^ n by one
pub has_lowest : (n w i : ℕ) → w + 1 ≡ 2 ^ n → has w i ≡ ltb i n
has_lowest n w i e = ⊎_elim
    (λ (l : i < n). ap (λ (x : ℕ). has x i) q ∙ has-not n 0 i (pow_pos n) l ∙ ap not (has-zero i) ∙ sym (lt-ltb i n l))
    (λ (l : n ≤ i). has_above n w i (omega arith) l ∙ sym (le-ltb i n l))
    (lt-or-le i n)
  where
    q : w ≡ 2 ^ n - 1 - 0
    q = omega arith

pub lowest_word : (n w : ℕ) → w + 1 ≡ 2 ^ n → w ≡ word n (λ i. true)
lowest_word n w e = is_word n w (λ i. true) (omega arith) (λ i l. has_lowest n w i e ∙ lt-ltb i n l)

-- ---- those bits of a word of k bits that pass a test, among m bits
pub word_kept : (k m : ℕ) (p q : ℕ → Bool) → k ≤ m → word m (λ i. has (word k p) i && q i) ≡ word k (λ i. p i && q i)
word_kept k m p q h =
    has_ext m _ _ (word_lt m _) (lt_of_lt_of_le (word_lt k _) (pow_mono h))
    (λ i l. has_word m _ i l ∙ ⊎_elim (inside i) (outside i) (lt-or-le i k))
  where
    inside : (i : ℕ) → i < k → (has (word k p) i && q i) ≡ has (word k (λ j. p j && q j)) i
    inside i l = ap (λ (b : Bool). b && q i) (has_word k p i l) ∙ sym (has_word k (λ j. p j && q j) i l)

    outside : (i : ℕ) → k ≤ i → (has (word k p) i && q i) ≡ has (word k (λ j. p j && q j)) i
    outside i l =
        ap (λ (b : Bool). b && q i) (has_above k (word k p) i (word_lt k p) l)
        ∙ sym (has_above k (word k (λ j. p j && q j)) i (word_lt k _) l)

-- ---- a word is zero where it has no bit
pub zero-any : (k w : ℕ) → w < 2 ^ k → eqb w 0 ≡ not (any k (has w))
zero-any k w h = go (any k (has w)) refl
  where
    go : (b : Bool) → any k (has w) ≡ b → eqb w 0 ≡ not (any k (has w))
    go false e =
        rw e (eq-eqb w 0 (has_ext k w 0 h (pow_pos k) (λ i l. any_false k (has w) e i l ∙ sym (has-zero i))))
    go true e =
        rw e
        (ne_eqb w 0 (λ q. false≢true (sym (all-false k (has w) (λ i l. ap (λ (x : ℕ). has x i) q ∙ has-zero i)) ∙ e)))

zero-and : (k a b : ℕ) → a < 2 ^ k → eqb (bit_and a b) 0 ≡ not (any k (λ i. has a i && has b i))
zero-and k a b h =
    zero-any k (bit_and a b) (lt_of_le_of_lt (and_le_l a b) h)
    ∙ ap not (any_ext k (has (bit_and a b)) (λ i. has a i && has b i) (λ i l. has-and a b i))

pub test-one : (k w i : ℕ) → w < 2 ^ k → i < k → not (eqb (bit_and w (2 ^ i)) 0) ≡ has w i
test-one k w i h l =
    ap not (zero-and k w (2 ^ i) h) ∙ not-not _
    ∙ any_ext k (λ j. has w j && has (2 ^ i) j) (λ j. has w j && eqb j i)
    (λ j m. ap (λ (b : Bool). has w j && b) (has-single i j))
    ∙ any_at k (has w) i l

-- ---- one bit more
pub has-or-one : (w a i : ℕ) → has (bit_or w (2 ^ a)) i ≡ (has w i || eqb i a)
has-or-one w a i = has-or w (2 ^ a) i ∙ ap (λ (b : Bool). has w i || b) (has-single a i)

pub or-one-lt : (k w a : ℕ) → w < 2 ^ k → a < k → bit_or w (2 ^ a) < 2 ^ k
or-one-lt k w a h l = or_lt k w (2 ^ a) h (pow-lt l)

-- ---- one bit less
pub has_without_one : (k w a i : ℕ) → a < k → i < k → has (bit_and w (2 ^ k - 1 - 2 ^ a)) i ≡ (has w i && not (eqb i a))
has_without_one k w a i l m =
    has-and w (2 ^ k - 1 - 2 ^ a) i
    ∙ ap (λ (b : Bool). has w i && b) (has-not k (2 ^ a) i (pow-lt l) m ∙ ap not (has-single a i))

pub without_one_lt : (k w a : ℕ) → w < 2 ^ k → bit_and w (2 ^ k - 1 - 2 ^ a) < 2 ^ k
without_one_lt k w a h = lt_of_le_of_lt (and_le_l w (2 ^ k - 1 - 2 ^ a)) h
