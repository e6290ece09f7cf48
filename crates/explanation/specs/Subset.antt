-- Subsets of a setting, and minimal explanations.
-- From: document 01, "Causes, settings, explanations".
--
--   subset_of cs t s     each digit of t to the bases cs is 0 or that of s
--   proper_of cs t s     t is a subset of s and another setting
--   some_proper p cs s   some proper subset of s among the settings passes the test p
--   minimal J cs s       s explains, and no proper subset of s explains
use Rattle.std.specs.Prelude.{Bool, true, not, ◌&&◌, ◌||◌, List, [], ◌∷◌, ℕ, ◌/◌, ◌%◌, eqb}
use Rattle.words.specs.Below.{any}
use Rattle.program.specs.Setting.{product}
use Rattle.explanation.specs.Judge.{Judge}

unfoldable pub subset_of : List ℕ → ℕ → ℕ → Bool
subset_of [] t s = true
subset_of (c ∷ cs) t s = (eqb (t % c) 0 || eqb (t % c) (s % c)) && subset_of cs (t / c) (s / c)

unfoldable pub proper_of : List ℕ → ℕ → ℕ → Bool
proper_of cs t s = subset_of cs t s && not (eqb t s)

-- some proper subset of s among the settings passes a test
unfoldable pub some_proper : (ℕ → Bool) → List ℕ → ℕ → Bool
some_proper p cs s = any (product cs) (λ t. proper_of cs t s && p t)

unfoldable pub minimal : Judge → List ℕ → ℕ → Bool
minimal J cs s = J.explains s && not (some_proper J.explains cs s)
