-- `body` meets its contract: the plain atoms joined by the planes as they are, the negated ones by the planes changed
-- over, beginning with true in each lane. Assumes nothing.
use mathlib.Core.Path.{refl}
use Rattle.planes.proofs.Joining.{body_is}
use Rattle.planes.proofs.plane.body.Goals as goal

pub returns : goal.returns
returns c =
    λ j l. body_is _ _ _ _ c.requires _ _ _ refl c.join-plains.ensures c.join.ensures j l
