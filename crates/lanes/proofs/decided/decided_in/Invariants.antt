-- `decided_in` meets its contract: the atoms passed are counted (`Counting`). Assumes nothing.
use Rattle.lanes.proofs.Counting.{Counting}
use Rattle.lanes.proofs.decided.decided_in.Given as goal

abbrev pub invariant-loop-a : goal.invariant-loop-a
invariant-loop-a l = Counting l.p.trues l.p.falses l.valid l.total l.a
