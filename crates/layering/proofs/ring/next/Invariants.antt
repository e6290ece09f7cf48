-- `next` meets its contract: an atom that it looks for is left (`Seeking`). Assumes nothing.
use Rattle.layering.proofs.Following.{Seeking}
use Rattle.layering.proofs.ring.next.Given as goal

abbrev pub invariant-loop-b : goal.invariant-loop-b
invariant-loop-b l = Seeking l.dependents l.among l.at l.b-iterator.left
