-- The goals of `visit`: its loop keeps the invariant, and ends with every lane visited. Assumes nothing.
use native.Mathlib.Omega.{arith}
use Rattle.verdict.proofs.Visiting.{visiting_next, visiting_end}
use Rattle.verdict.proofs.visit.visit.Goals as goal

pub loop-j-preserved : goal.loop-j-preserved
loop-j-preserved c =
    visiting_next c.loop-j.invariant (omega arith) c.take-found.ensures.visited (omega arith) (omega arith)
    c.take-found.ensures.room

pub returns : goal.returns
returns c = visiting_end c.loop-j.invariant (omega arith)
