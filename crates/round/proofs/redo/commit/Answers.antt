-- `commit` meets its contract: each atom of the word is taken into either plane (`Committing`). Assumes nothing.
use Rattle.round.proofs.Committing.{committing_next, committing_end}
use Rattle.round.proofs.redo.commit.Goals as goal

pub loop-i-preserved : goal.loop-i-preserved
loop-i-preserved c =
    let b = c.in-Some.ensures.steps.0.bit in
    let i = c.loop-i.invariant in
    rw c.in-Some.ensures.steps.1 (committing_next _ _ _ _ _ _ i.0 b, committing_next _ _ _ _ _ _ i.1 b)

pub returns : goal.returns
returns c =
    let i = c.loop-i.invariant in
    let e = c.in-None.ensures.steps.0 in
    record {
      sizes = record { first-size = i.0.size; second-size = i.1.size };
      trues_are = committing_end _ _ _ _ _ i.0 e;
      falses_are = committing_end _ _ _ _ _ i.1 e;
    }
