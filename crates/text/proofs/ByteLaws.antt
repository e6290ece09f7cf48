-- Laws of the tests of bytes, and of a test of every byte of a list. Assumes nothing.
use mathlib.Core.Path.{◌≡◌, refl}
use mathlib.Core.Bool.{Bool, true, false, ◌&&◌, or-true}
use mathlib.Core.List.{List, [], ◌∷◌, ◌++◌}
use Prim.Native.Nat.{ℕ, zero, suc, ◌≤◌, ◌<◌}
use native.Mathlib.Nat.{not-suc-le-zero, le_of_suc-le-suc}
use native.Mathlib.Omega.{arith}
use lib.ListN.{length, drop, get_or, drop_of_length-le}
use Rattle.std.specs.List.{list_all}
use Rattle.text.specs.Bytes.{is_letter, is_digit, is_word_byte, is_allowed, all_of}

-- is_word_byte

pub word_byte_not_zero : (b : ℕ) → is_word_byte b ≡ true → b ≡ 0 → ⊥
unfolding is_word_byte
word_byte_not_zero b t e =
    let f : is_word_byte b ≡ false = rw e in
    let z : ◌≡◌ {A = ℕ} 0 1 = cc in
    omega arith

pub letter_word_byte : (b : ℕ) → is_letter b ≡ true → is_word_byte b ≡ true
unfolding is_word_byte
letter_word_byte b h = rw h

pub digit-word_byte : (b : ℕ) → is_digit b ≡ true → is_word_byte b ≡ true
unfolding is_word_byte
digit-word_byte b h = rw (h, or-true (is_letter b))

-- is_allowed

pub allowed_word : (b : ℕ) → is_word_byte b ≡ true → is_allowed b ≡ true
unfolding is_allowed
allowed_word b e = simp e

-- LF is not allowed
pub allowed_not_feed : (b : ℕ) → is_allowed b ≡ true → b ≡ 10 → ⊥
unfolding is_allowed is_word_byte
allowed_not_feed b t e =
    let f : is_allowed b ≡ false = rw e in
    let z : ◌≡◌ {A = ℕ} 0 1 = cc in
    omega arith

-- all_of

pub and_true_both : (x y : Bool) → (x && y) ≡ true → (x ≡ true) × (y ≡ true)
and_true_both true y e = (refl, e)
and_true_both false y e = let z : ◌≡◌ {A = ℕ} 0 1 = cc in absurd (omega arith)

module _ (p : ℕ → Bool) where
  pub all_head : (b : ℕ) (l : List ℕ) → all_of p (b ∷ l) ≡ true → p b ≡ true
  unfolding all_of
  all_head b l h = (and_true_both (p b) (all_of p l) h).0

  pub all_tail : (b : ℕ) (l : List ℕ) → all_of p (b ∷ l) ≡ true → all_of p l ≡ true
  unfolding all_of
  all_tail b l h = (and_true_both (p b) (all_of p l) h).1

  pub all-at : (l : List ℕ) (i : ℕ) → all_of p l ≡ true → i < length l → p (get_or l i 0) ≡ true
  all-at [] i h k = absurd (not-suc-le-zero k)
  all-at (b ∷ l) zero h k = all_head b l h
  all-at (b ∷ l) (suc i) h k = all-at l i (all_tail b l h) (le_of_suc-le-suc k)

  pub all_push : (l : List ℕ) (b : ℕ) → all_of p l ≡ true → p b ≡ true → all_of p (l ++ (b ∷ [])) ≡ true
  unfolding all_of
  all_push [] b h k = rw k
  all_push (c ∷ l) b h k = rw (all_head c l h) (all_push l b (all_tail c l h) k)

  pub all_append : (l m : List ℕ) → all_of p l ≡ true → all_of p m ≡ true → all_of p (l ++ m) ≡ true
  unfolding all_of
  all_append [] m h k = k
  all_append (c ∷ l) m h k = rw (all_head c l h) (all_append l m (all_tail c l h) k)

  pub all-ends : (l : List ℕ) (i : ℕ) → length l ≤ i → all_of p (drop i l) ≡ true
  unfolding all_of
  all-ends l i h = rw (drop_of_length-le l h)

pub all_gives : (p q : ℕ → Bool) → ((b : ℕ) → p b ≡ true → q b ≡ true) → (l : List ℕ) → all_of p l ≡ true
    → all_of q l ≡ true
unfolding all_of
all_gives p q f [] h = refl
all_gives p q f (b ∷ l) h = rw (f b (all_head p b l h)) (all_gives p q f l (all_tail p b l h))

-- as the library says it
pub all_listed : (p : ℕ → Bool) (l : List ℕ) → all_of p l ≡ list_all p l
unfolding all_of
all_listed p [] = refl
all_listed p (b ∷ l) = rw (all_listed p l)
