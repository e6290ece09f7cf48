-- One bit of a word, as the functions that add, take away and find a bit promise it.
use Rattle.std.specs.Prelude.{◌≡◌, Bool, true, false, ℕ, ◌-◌, ◌^◌, ◌<◌}
use Rattle.std.specs.Int.Bits.{bit_and, bit_or}
use Rattle.words.specs.Bits.{has}

-- w, and bit i where the test t holds
abbrev pub with_bit : Bool → ℕ → ℕ → ℕ
with_bit true w i = bit_or w (2 ^ i)
with_bit false w i = w

-- w, of 64 bits, without bit i
abbrev pub without_bit : ℕ → ℕ → ℕ
without_bit w i = bit_and w (2 ^ 64 - 1 - 2 ^ i)

-- i is the number of one of the 64 bits of w
pub record BitOf (w i : ℕ) : Type 0 where
  pub small : i < 64
  pub there : has w i ≡ true

-- i is the number of the lowest bit of w
pub record LowestOf (w i : ℕ) : Type 0 where
  pub bit : BitOf w i
  pub none_below : (j : ℕ) → j < i → has w j ≡ false
