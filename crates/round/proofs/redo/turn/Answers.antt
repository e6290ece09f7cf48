-- `turn` meets its contract: a head that is decided in each lane is left, another is noted by what its rules are worth.
-- Assumes nothing.
use Rattle.round.proofs.Noting.{taken_none, taken-some}
use Rattle.round.proofs.redo.turn.Goals as goal

pub returns-then-free-eq0 : goal.returns-then-free-eq0
returns-then-free-eq0 c =
    let p = c.requires in
    taken_none _ _ _ _ _ _ _ _ _ p.4 p.5 c.undecided-free.ensures c.if-free-eq0.true

pub returns : goal.returns
returns c =
    let p = c.requires in
    taken-some _ _ _ _ _ _ _ _ _ _ _ _ _ p.0 p.4 p.5 c.undecided-free.ensures c.rules-v.ensures
    c.note.ensures
