-- `spread` meets its contract: what is done and what is left of the word's bits is always all (`Spreading`).
-- Assumes nothing.
use Rattle.prepared.proofs.Filling.{Spreading}
use Rattle.prepared.proofs.dependent.spread.Given as goal

abbrev pub invariant-loop-i : goal.invariant-loop-i
invariant-loop-i l = Spreading l.initial.dependents l.w l.head l.dependents l.i-iterator.left
