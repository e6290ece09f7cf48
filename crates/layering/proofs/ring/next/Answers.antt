-- The goals of `next`: its loop keeps the invariant, and the walk doesn't end before an atom is found. Assumes nothing.
use mathlib.Core.Path.{sym, ◌∙◌}
use Rattle.layering.proofs.Following.{seeking_some, seeking_next}
use Rattle.layering.proofs.ring.next.Goals as goal

pub loop-b-preserved : goal.loop-b-preserved
loop-b-preserved c =
    let s = c.in-Some.ensures.steps in
    rw s.1 (seeking_next _ _ _ c.loop-b.invariant _ s.0.bit (sym c.test.ensures ∙ c.if-test.false))

pub returns : goal.returns
returns c = absurd (seeking_some _ _ _ c.loop-b.invariant c.in-None.ensures.steps.0)
