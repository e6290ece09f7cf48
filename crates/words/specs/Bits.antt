-- The bits of a number as tests, bit 0 the lowest.
-- From: document 01, "Interpretations and the step" ("two 64-bit words, bit i for atom i").
--
--   odd x             x is odd
--   has w i           w has bit i
--   word k p          the number of k bits that has bit i exactly where p i holds
use Rattle.std.specs.Prelude.{Bool, true, false, ℕ, zero, suc, ◌+◌, ◌*◌, ◌/◌, ◌%◌, ◌^◌, eqb}

abbrev pub odd : ℕ → Bool
odd x = eqb (x % 2) 1

unfoldable pub has : ℕ → ℕ → Bool
has w i = odd (w / 2 ^ i)

abbrev pub digit : Bool → ℕ
digit true = 1
digit false = 0

unfoldable pub word : ℕ → (ℕ → Bool) → ℕ
word zero p = 0
word (suc k) p = word k (λ i. p (suc i)) * 2 + digit (p 0)
