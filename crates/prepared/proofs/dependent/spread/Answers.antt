-- The goals of `spread`: its loop keeps the invariant, and the end gives what is promised. Assumes nothing.
use Rattle.prepared.proofs.Filling.{spreading_next, spreading_end}
use Rattle.prepared.proofs.dependent.spread.Goals as goal

pub loop-i-preserved : goal.loop-i-preserved
loop-i-preserved c =
    let s = c.in-Some.ensures.steps in
    rw s.1 (spreading_next _ _ _ _ _ _ _ c.loop-i.invariant s.0.bit c.single-bit.ensures)

pub returns : goal.returns
returns c = spreading_end _ _ _ _ _ c.loop-i.invariant c.in-None.ensures.steps.0
