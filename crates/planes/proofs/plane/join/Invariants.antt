-- `join` meets its contract: what is joined and what is left of the word's atoms is always all (`Joining`).
-- Assumes nothing.
use Rattle.planes.proofs.Joining.{Joining}
use Rattle.planes.proofs.plane.join.Given as goal

abbrev pub invariant-loop-i : goal.invariant-loop-i
invariant-loop-i l =
    Joining l.t l.f l.w (record { trues = l.initial.up; falses = l.initial.down }) l.i-iterator.left l.up l.down
