-- The goals of `touched`: its loop keeps the invariant, and the end gives what is promised. Assumes nothing.
use borrow.Author.Rules.{rules}
use Rattle.prepared.proofs.Touching.{gathered_start, gathered_next, gathered_end}
use Rattle.prepared.proofs.dependent.touched.Goals as goal

pub loop-i-init : goal.loop-i-init
loop-i-init c =
    rw (c.into_iter-i-iterator.ensures.into_iter_gives, c.bits_of-i-items.ensures) (gathered_start _ _)

pub loop-i-preserved : goal.loop-i-preserved
loop-i-preserved c =
    let s = c.in-Some.ensures.steps in
    rw s.1 (gathered_next _ _ _ _ _ c.loop-i.invariant s.0.bit (search rules))

pub returns : goal.returns
returns c = gathered_end _ _ _ _ c.loop-i.invariant c.in-None.ensures.steps.0
