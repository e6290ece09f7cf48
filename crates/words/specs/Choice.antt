-- Choices by a test, and by the number of a refusal, 0 where nothing is refused.
-- From: document 01, "What each operation refuses" (refusals by number, in their order).
--
--   pick t x y             x where the test t holds, otherwise y
--   cons_if t x l          x in front of l where the test t holds, otherwise l
--   unless_refused n x y   x where the refusal n is 0, otherwise y
--   first_of n m           n where it is a refusal, otherwise m
--   check n t              the test t, where it fails refused with n
--   first_failed l         the number of the first check of l that fails, 0 where all pass
use Rattle.std.specs.Prelude.{Bool, true, false, List, [], ◌∷◌, ℕ, zero, suc}

abbrev pub pick : {A : Type 0} → Bool → A → A → A
pick true x y = x
pick false x y = y

abbrev pub cons_if : {A : Type 0} → Bool → A → List A → List A
cons_if true x l = x ∷ l
cons_if false x l = l

abbrev pub unless_refused : {A : Type 0} → ℕ → A → A → A
unless_refused zero x y = x
unless_refused (suc n) x y = y

abbrev pub first_of : ℕ → ℕ → ℕ
first_of n m = unless_refused n m n

-- a test, and the number of the refusal where it fails
pub record Check : Type 0 where
  pub number : ℕ
  pub passes : Bool

abbrev pub check : ℕ → Bool → Check
check n t = record { number = n; passes = t }

abbrev pub first_failed : List Check → ℕ
first_failed [] = 0
first_failed (k ∷ l) = pick k.passes (first_failed l) k.number
