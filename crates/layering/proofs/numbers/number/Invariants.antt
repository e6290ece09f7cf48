-- `number` meets its contract: after k rounds the atoms left are the heads of chains of k, and the others have their
-- numbers (`Peeled`). Assumes nothing.
use Rattle.layering.proofs.Peeling.{Peeled}
use Rattle.layering.proofs.numbers.number.Given as goal

abbrev pub invariant-loop-k : goal.invariant-loop-k
invariant-loop-k l = Peeled l.n l.dependents l.k l.left l.entries
