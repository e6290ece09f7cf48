-- The goals of `join`: its loop keeps the invariant, and each way out gives what is promised. Assumes nothing.
use Rattle.planes.proofs.Joining.{joining_start, joining_next, joining_end}
use Rattle.planes.proofs.plane.join.Goals as goal

pub loop-i-init : goal.loop-i-init
loop-i-init c =
    rw (c.into_iter-i-iterator.ensures.into_iter_gives, c.bits_of-i-items.ensures) (joining_start _ _ _ _)

pub loop-i-preserved : goal.loop-i-preserved
loop-i-preserved c =
    let b = c.in-Some.ensures.steps.0 in
    rw c.in-Some.ensures.steps.1 (joining_next _ _ _ _ _ _ _ _ c.loop-i.invariant b.bit)

pub returns : goal.returns
returns c = joining_end _ _ _ _ _ _ _ c.loop-i.invariant c.in-None.ensures.steps.0
