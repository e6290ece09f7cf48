-- The goals of `verdicts`: its loop keeps the invariant. Assumes nothing.
use native.Mathlib.Omega.{arith}
use Rattle.verdict.proofs.Numbers.{numbered-none, numbered_more}
use Rattle.verdict.proofs.counts.Counts.verdicts.Goals as goal

pub loop-q-init : goal.loop-q-init
loop-q-init c = numbered-none _

pub loop-q-preserved : goal.loop-q-preserved
loop-q-preserved c =
    numbered_more c.args.self c.loop-q.invariant (omega arith) c.test-follows.ensures c.test-denied.ensures
    c.over.ensures c.from.ensures
