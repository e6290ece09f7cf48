-- `cheaper` meets its contract, by whether there is a setting already, and which of the two costs less.
-- Assumes nothing.
use mathlib.Core.Path.{sym, ◌∙◌}
use native.Mathlib.Omega.{arith}
use Rattle.cost.proofs.Least.{chosen-first, chosen_less, chosen-kept}
use Rattle.cost.proofs.cheapest.cheaper.Goals as goal

pub returns-in-Some : goal.returns-in-Some
returns-in-Some c = λ f l e k. chosen-kept f l (sym c.in-Some.is ∙ k) c.if-k-other.true e

pub returns-in_default : goal.returns-in_default
returns-in_default c = λ f l e k. chosen_less f l (sym c.in-Some.is ∙ k) (omega arith) e

pub returns-in_default-2 : goal.returns-in_default-2
returns-in_default-2 c = λ f l e k. chosen-first f l (sym c.in_default.is ∙ k) e
