-- `broadcast` meets its contract: the atoms passed have all lanes or none (`EvenBelow`). Assumes nothing.
use Rattle.planes.proofs.Filling.{EvenBelow}
use Rattle.planes.proofs.fill.broadcast.Given as goal

abbrev pub invariant-loop-i : goal.invariant-loop-i
invariant-loop-i l = EvenBelow l.w l.i l.plane
