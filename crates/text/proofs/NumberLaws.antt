-- Laws of the number that digits stand for: of lists, and of a loop over a word.
--
--   Counting w i n    the digits of w before place i stand for n, which has no more digits
-- Assumes nothing.
use mathlib.Core.Path.{◌≡◌, refl, sym, ◌∙◌}
use mathlib.Core.Bool.{true, false, ◌&&◌, and-true, and-false}
use mathlib.Core.List.{List, [], ◌∷◌, ◌++◌}
use Prim.Native.Nat.{ℕ, suc, ◌+◌, ◌-◌, ◌*◌, ◌^◌, ◌≤◌, ◌<◌}
use native.Mathlib.Nat.{lt_of_lt_of_le, zero-lt-suc, pow-suc, pow-le-pow_right}
use native.Mathlib.Numerals.{add-one}
use native.Mathlib.Omega.{arith}
use lib.Dec.{leb}
use lib.ListN.{length, drop, get_or, drop_of_length-le}
use lib.Seq.{drop-cons}
use borrow.Author.Tests.{leb-true, le-leb, lt-leb}
use Rattle.std.specs.Prelude.{Option, Some, None}
use Rattle.text.specs.Bytes.{is_digit, is_word_byte, all_of}
use Rattle.text.specs.Numbers.{number_from, number_of, are_digits, is_number}
use Rattle.text.specs.Words.{begins_with_letter, IsWord}
use Rattle.text.specs.Scanning.{DigitsRead, NumberRead}
use Rattle.text.proofs.ByteLaws.{digit-word_byte, and_true_both, all_gives}

pub number-none : (n : ℕ) → number_from n [] ≡ n
unfolding number_from
number-none n = refl

pub number_push : (n b : ℕ) (l : List ℕ) → number_from n (l ++ (b ∷ [])) ≡ number_from n l * 10 + (b - 48)
unfolding number_from
number_push n b [] = refl
number_push n b (c ∷ l) = number_push (n * 10 + (c - 48)) b l

-- digits

pub digit_between : (b : ℕ) → is_digit b ≡ true → (48 ≤ b) × (b ≤ 57)
digit_between b d =
    let p = and_true_both (leb 48 b) (leb b 57) d in
    (leb-true 48 b p.0, leb-true b 57 p.1)

-- a number is no name
pub number-unlettered : (w : List ℕ) → is_number w ≡ true → begins_with_letter w ≡ false
unfolding is_number all_of begins_with_letter
number-unlettered [] h = refl
number-unlettered (b ∷ w) h =
    let t = leb 1 (length (b ∷ w)) && leb (length (b ∷ w)) 7 in
    let a = and_true_both t (all_of is_digit (b ∷ w)) h in
    let d = digit_between b (and_true_both (is_digit b) (all_of is_digit w) a.1).0 in
    rw (lt-leb 97 b (omega arith))

-- and a word
pub number_word : (w : List ℕ) → is_number w ≡ true → IsWord w
unfolding is_number
number_word w h =
    let a = and_true_both (leb 1 (length w) && leb (length w) 7) (all_of is_digit w) h in
    let b = and_true_both (leb 1 (length w)) (leb (length w) 7) a.0 in
    (leb-true 1 (length w) b.0, all_gives is_digit is_word_byte digit-word_byte w a.1)

-- one to seven digits are a number
pub digits_number : (w : List ℕ) → 0 < length w → length w ≤ 7 → all_of is_digit w ≡ true → is_number w ≡ true
unfolding is_number
digits_number w some few d = rw (le-leb 1 (length w) some, le-leb (length w) 7 few, d)

-- words that are no number by their length

pub digits-empty : (w : List ℕ) → length w ≡ 0 → DigitsRead w None
unfolding are_digits
digits-empty [] q = record { number_is = refl }
digits-empty (b ∷ w) q = absurd (omega arith)

module _ (w : List ℕ) where
  pub number-long : 7 < length w → NumberRead w None
  unfolding is_number
  number-long h = record { number_is = rw (lt-leb (length w) 7 h, and-false) }

  -- at most seven digits are a number
  few-digits : length w ≤ 7 → are_digits w ≡ is_number w
  unfolding are_digits is_number
  few-digits h = rw (le-leb (length w) 7 h, and-true)

  pub number-few : (r : Option ℕ) → length w ≤ 7 → DigitsRead w r → NumberRead w r
  number-few None h d = record { number_is = rw (few-digits h) at d.number_is }
  number-few (Some n) h d = record { number_is = (rw (few-digits h) at d.number_is.0, d.number_is.1) }

pub record Counting (w : List ℕ) (i n : ℕ) : Type 0 where
  pub within : i ≤ length w
  pub number_is : number_of w ≡ number_from n (drop i w)
  pub digits_are : all_of is_digit w ≡ all_of is_digit (drop i w)
  pub small : n < 10 ^ i

module _ {w : List ℕ} {i n : ℕ} (h : Counting w i n) where
  -- a digit more fits
  pub counting_small : length w ≤ 19 → i < length w → n < 10 ^ 18
  counting_small s k =
      let o : i ≤ 18 = omega arith in
      lt_of_lt_of_le h.small (pow-le-pow_right (zero-lt-suc 9) o)

  pub counting_ends : (length w ≡ 0 → ⊥) → length w ≤ i → DigitsRead w (Some n)
  unfolding are_digits all_of
  counting_ends f k =
      let q = drop_of_length-le w k in
      let d : all_of is_digit w ≡ true = h.digits_are ∙ rw q in
      let v : n ≡ number_of w = sym (h.number_is ∙ rw q (number-none n)) in
      record { number_is = (rw (le-leb 1 (length w) (omega arith), d), v) }

  module _ (k : i < length w) where
    left_is : drop i w ≡ get_or w i 0 ∷ drop (suc i) w
    left_is = drop-cons w i 0 k

    pub counting_stops : is_digit (get_or w i 0) ≡ false → DigitsRead w None
    unfolding are_digits all_of
    counting_stops d = record { number_is = rw (h.digits_are, left_is, d, and-false) }

    pub counting_more : is_digit (get_or w i 0) ≡ true → Counting w (i + 1) (n * 10 + (get_or w i 0 - 48))
    unfolding number_from all_of
    counting_more d =
        let b = digit_between (get_or w i 0) d in
        let s = h.small in
        record {
          within = omega arith;
          number_is = h.number_is ∙ rw (add-one, left_is);
          digits_are = h.digits_are ∙ rw (add-one, left_is) (rw d);
          small = rw (add-one, pow-suc) (omega arith);
        }
