-- `atoms_in` meets its contract: the word is gathered atom by atom (`Gathering`). Assumes nothing.
use Rattle.words.proofs.Gathering.{Gathering}
use Rattle.planes.specs.Planes.{at}
use Rattle.planes.proofs.lane.atoms_in.Given as goal

abbrev pub invariant-loop-i : goal.invariant-loop-i
invariant-loop-i l = Gathering (at l.plane l.j) l.atoms l.i
