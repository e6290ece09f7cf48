-- Numbers in decimal.
-- From: document 01, head ("Counts are in decimal").
--
--   decimal_within k n   the decimal digits of n, of which there are at most k + 1, as bytes, most significant first
--   decimal n            those of a 64-bit number, which has at most 20 (Claims, DecimalExact)
use Rattle.std.specs.Prelude.{Bool, true, false, List, [], ◌∷◌, ◌++◌, ℕ, zero, suc, ◌+◌, ◌/◌, ◌%◌, ltb}

-- the byte of a digit
abbrev pub digit_byte : ℕ → ℕ
digit_byte d = 48 + d

-- one digit where the test holds, otherwise the digits in front of it too
abbrev pub lead : Bool → List ℕ → ℕ → List ℕ
lead true front d = digit_byte d ∷ []
lead false front d = front ++ (digit_byte d ∷ [])

unfoldable pub decimal_within : ℕ → ℕ → List ℕ
decimal_within zero n = digit_byte (n % 10) ∷ []
decimal_within (suc k) n = let front = decimal_within k (n / 10) in lead (ltb n 10) front (n % 10)

unfoldable pub decimal : ℕ → List ℕ
decimal n = decimal_within 19 n
