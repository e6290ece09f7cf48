-- The goals of `give`: its loop keeps the invariant, and the end gives what is promised. Assumes nothing.
use Rattle.layering.proofs.Peeling.{giving_next, giving_end}
use Rattle.layering.proofs.numbers.give.Goals as goal

pub loop-a-preserved : goal.loop-a-preserved
loop-a-preserved c =
    let s = c.in-Some.ensures.steps in
    rw s.1 (giving_next _ _ _ _ _ _ c.loop-a.invariant s.0.bit)

pub returns : goal.returns
returns c = giving_end _ _ _ _ _ c.loop-a.invariant c.in-None.ensures.steps.0
