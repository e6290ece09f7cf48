-- `decide` meets its contract: each head in turn is taken, and what it notes is kept (`Deciding`). Assumes nothing.
use Rattle.round.proofs.Deciding.{deciding_start, deciding_next, deciding_end}
use Rattle.round.proofs.redo.decide.Goals as goal

pub loop-a-init : goal.loop-a-init
loop-a-init c =
    rw (c.into_iter-a-iterator.ensures.into_iter_gives, c.bits_of-a-items.ensures)
    (deciding_start _ _ _ _ _ _ _ c.requires.3)

pub loop-a-preserved : goal.loop-a-preserved
loop-a-preserved c =
    let b = c.in-Some.ensures.steps.0.bit in
    rw c.in-Some.ensures.steps.1
    (deciding_next _ _ _ _ _ _ _ _ _ _ _ _ _ c.loop-a.invariant b c.turn-c.ensures)

pub returns : goal.returns
returns c = deciding_end _ _ _ _ _ _ _ _ _ c.loop-a.invariant c.in-None.ensures.steps.0
