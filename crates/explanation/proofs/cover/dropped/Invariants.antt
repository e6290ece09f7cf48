-- `dropped` meets its contract: the causes are taken one by one, lowest first (`Dropping`). Assumes nothing.
use Rattle.explanation.proofs.Rows.{Dropping}
use Rattle.explanation.proofs.cover.dropped.Given as goal

abbrev pub invariant-loop-a : goal.invariant-loop-a
invariant-loop-a l =
    Dropping l.row l.place l.causes l.weights l.added.facts l.added.assumptions l.lanes l.a-iterator.left
