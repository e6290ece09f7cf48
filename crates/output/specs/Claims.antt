-- What is claimed of numbers in decimal. Proved in proofs/Theorems.antt.
-- From: document 01, head ("Counts are in decimal").
use Rattle.std.specs.Prelude.{◌≡◌, true, List, ℕ, ◌^◌, ◌<◌, length, get_or}
use Rattle.text.specs.Bytes.{is_digit, all_of}
use Rattle.text.specs.Numbers.{number_from}
use Rattle.output.specs.Decimal.{decimal}

-- l is the number n in decimal: digits that stand for it, the first of which isn't 0 unless it is the only one
pub record InDecimal (n : ℕ) (l : List ℕ) : Type 0 where
  pub are_digits : all_of is_digit l ≡ true
  pub stands_for : number_from 0 l ≡ n
  pub no_zero-first : 1 < length l → get_or l 0 0 ≡ 48 → ⊥

-- the limit of 20 digits never changes the text of a 64-bit number
abbrev pub DecimalExact : Type 0
DecimalExact = (n : ℕ) → n < 2 ^ 64 → InDecimal n (decimal n)
