-- `first_round` meets its contract: it is the step from nothing with nothing added, beside the heads.
-- Assumes nothing.
use Rattle.prepared.proofs.Openings.{opening-is}
use Rattle.prepared.proofs.opening.first_round.Goals as goal

pub returns : goal.returns
returns c =
    opening-is _ _ c.apply.result _ (rw c.nothing.ensures at c.apply.ensures) c.requires
