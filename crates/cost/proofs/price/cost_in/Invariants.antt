-- `cost_in` meets its contract: what is paid and the prices to come are always all (`Paying`). Assumes nothing.
use Rattle.cost.proofs.Costs.{Paying}
use Rattle.cost.proofs.price.cost_in.Given as goal

abbrev pub invariant-loop-a : goal.invariant-loop-a
invariant-loop-a l = Paying l.prices l.added.facts l.added.assumptions l.j l.cost l.a-iterator.left
