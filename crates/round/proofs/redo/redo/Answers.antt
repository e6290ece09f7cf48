-- `redo` meets its contract: the heads are decided against the old planes, then the atoms noted are taken in.
-- Assumes nothing.
use Rattle.round.proofs.Committing.{redone-lanes}
use Rattle.round.proofs.redo.redo.Goals as goal

pub returns : goal.returns
returns c = record {
  redone = redone-lanes _ _ _ _ _ _ _ _ _ _ c.decide-c.ensures c.commit.ensures;
  sizes = (c.commit.ensures.sizes, c.decide-c.ensures.sizes);
}
