-- `touched` meets its contract: the heads gathered and those that the atoms left touch are always all (`Gathered`).
-- Assumes nothing.
use Rattle.prepared.proofs.Touching.{Gathered}
use Rattle.prepared.proofs.dependent.touched.Given as goal

abbrev pub invariant-loop-i : goal.invariant-loop-i
invariant-loop-i l = Gathered l.dependents l.fresh l.heads l.i-iterator.left
