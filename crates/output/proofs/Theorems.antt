-- The claims on numbers in decimal (specs/Claims). Assumes nothing.
use mathlib.Core.Path.{◌≡◌, ◌∙◌}
use mathlib.Core.Bool.{true}
use mathlib.Core.List.{List, [], ◌∷◌, ◌++◌}
use Prim.Native.Nat.{ℕ, ◌+◌, ◌-◌, ◌/◌, ◌%◌, ◌≤◌, ◌<◌}
use native.Mathlib.Omega.{arith}
use lib.ListN.{get_or}
use borrow.Author.Tests.{le-leb}
use Rattle.text.specs.Bytes.{is_digit}
use Rattle.text.specs.Numbers.{number_from}
use Rattle.text.proofs.ByteLaws.{all_push, all-ends}
use Rattle.text.proofs.NumberLaws.{number-none, number_push}
use Rattle.output.specs.Decimal.{digit_byte, decimal}
use Rattle.output.specs.Claims.{InDecimal, DecimalExact}
use Rattle.output.proofs.Decimals.{within_induct}

is_digit-digit_byte : (d : ℕ) → d < 10 → is_digit (digit_byte d) ≡ true
is_digit-digit_byte d h = rw (le-leb 48 (48 + d) (omega arith), le-leb (48 + d) 57 (omega arith))

-- one digit
number-one : (b : ℕ) → number_from 0 (b ∷ []) ≡ b - 48
number-one b = number_push 0 b [] ∙ omega (arith, number-none 0)

-- the first of the digits of a number that isn't 0
first-kept : (n b : ℕ) (l : List ℕ) → 0 < n → InDecimal n l → get_or (l ++ (b ∷ [])) 0 0 ≡ 48 → ⊥
first-kept n b [] h i e = omega (arith, i.stands_for, number-none 0)
first-kept n b (c ∷ []) h i e = omega (arith, i.stands_for, number-one c)
first-kept n b (c ∷ d ∷ l) h i e = i.no_zero-first (omega arith) e

one-digit : (n : ℕ) → n < 10 → InDecimal n (digit_byte (n % 10) ∷ [])
one-digit n h = record {
  are_digits =
      all_push is_digit [] _ (all-ends is_digit [] 0 (omega arith)) (is_digit-digit_byte (n % 10) (omega arith));
  stands_for = omega (arith, number-one (digit_byte (n % 10)));
  no_zero-first = λ k. absurd (omega arith);
}

more-digits : (n : ℕ) (l : List ℕ) → 10 ≤ n → InDecimal (n / 10) l → InDecimal n (l ++ (digit_byte (n % 10) ∷ []))
more-digits n l h i = record {
  are_digits = all_push is_digit l (digit_byte (n % 10)) i.are_digits (is_digit-digit_byte (n % 10) (omega arith));
  stands_for = number_push 0 (digit_byte (n % 10)) l ∙ rw i.stands_for (omega arith);
  no_zero-first = λ k. first-kept (n / 10) (digit_byte (n % 10)) l (omega arith) i;
}

pub decimal-exact : DecimalExact
unfolding decimal
decimal-exact n h = within_induct InDecimal one-digit more-digits 19 n (omega arith)
