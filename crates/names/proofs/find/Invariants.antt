-- `names::find` meets its contract. The invariant is `Searched`: no row before place i holds the word. Assumes nothing.
use Rattle.names.proofs.Search.{Searched}
use Rattle.names.proofs.find.Given as goal

abbrev pub invariant-loop-i : goal.invariant-loop-i
invariant-loop-i l = Searched l.names l.count l.w l.i
