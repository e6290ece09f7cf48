-- Tests and sums over the numbers below n.
-- From: document 01, "Interpretations and the step" ("the least k"), "Case tables and sound cases" ("every") and "The
-- question" ("the sum").
--
--   any n p       some number below n passes p
--   every n p     every number below n passes p
--   first n p     the least number below n that passes p, n where there is none
--   sum n f       the sum of f over the numbers below n
use Rattle.std.specs.Prelude.{Bool, true, false, ◌&&◌, ◌||◌, ℕ, zero, suc, ◌+◌}
use Rattle.words.specs.Choice.{pick}

abbrev pub any : ℕ → (ℕ → Bool) → Bool
any zero p = false
any (suc n) p = any n p || p n

abbrev pub every : ℕ → (ℕ → Bool) → Bool
every zero p = true
every (suc n) p = every n p && p n

-- the least number that passes p among the n from k on, n + k where there is none
abbrev pub first_from : ℕ → (ℕ → Bool) → ℕ → ℕ
first_from zero p k = k
first_from (suc n) p k = let r = first_from n p (suc k) in pick (p k) k r

abbrev pub first : ℕ → (ℕ → Bool) → ℕ
first n p = first_from n p 0

unfoldable pub sum : ℕ → (ℕ → ℕ) → ℕ
sum zero f = 0
sum (suc n) f = sum n f + f n
