-- The goals of `dropped`: no place below the row's first is read, and its loop keeps the invariant. Assumes nothing.
use Rattle.explanation.proofs.Rows.{dropping_start, dropping_next, dropping_end}
use Rattle.explanation.proofs.cover.dropped.Goals as goal

pub loop-a-init : goal.loop-a-init
loop-a-init c = rw (c.into_iter-a-iterator.ensures.into_iter_gives, c.bits_of-a-items.ensures) dropping_start

pub loop-a-preserved : goal.loop-a-preserved
loop-a-preserved c =
    let b = c.in-Some.ensures.steps.0.bit in
    rw c.in-Some.ensures.steps.1
    (dropping_next c.loop-a.invariant _ _ _ b c.bits.ensures c.bits-in-loop-a.ensures)

pub returns : goal.returns
returns c = dropping_end c.loop-a.invariant c.in-None.ensures.steps.0
