-- The cheapest setting of a list, for any cost f of a setting.
-- From: document 02, [7] ("the lowest cost among the minimal explanations and the lowest-numbered minimal setting that
-- has it, both 0 if nothing explains").
--
--   cheaper f s l     the first of least cost among s and the settings of l
--   cheapest_of f l   the first of least cost in l, 0 where l is empty
--   lowest_cost f l   what it costs, 0 where l is empty
--   chosen_of f l     the cheapest of l and what it costs, where l has a setting
--   Chosen f l k      k is the cheapest of l and what it costs, or none
use Rattle.std.specs.Prelude.{◌≡◌, List, [], ◌∷◌, ℕ, Option, None, Some, ltb}
use Rattle.words.specs.Choice.{pick}
use Rattle.cost.specs.declared.cheapest.Cheapest.{Cheapest}

unfoldable pub cheaper : (ℕ → ℕ) → ℕ → List ℕ → ℕ
cheaper f s [] = s
cheaper f s (t ∷ l) = cheaper f (pick (ltb (f t) (f s)) t s) l

unfoldable pub cheapest_of : (ℕ → ℕ) → List ℕ → ℕ
cheapest_of f [] = 0
cheapest_of f (s ∷ l) = cheaper f s l

unfoldable pub lowest_cost : (ℕ → ℕ) → List ℕ → ℕ
lowest_cost f [] = 0
lowest_cost f (s ∷ l) = f (cheapest_of f (s ∷ l))

abbrev pub chosen_of : (ℕ → ℕ) → List ℕ → Option Cheapest
chosen_of f [] = None
chosen_of f (s ∷ l) = Some (record { cost = lowest_cost f (s ∷ l); setting = cheapest_of f (s ∷ l) })

abbrev pub Chosen : (ℕ → ℕ) → List ℕ → Option Cheapest → Type 0
Chosen f l k = k ≡ chosen_of f l
