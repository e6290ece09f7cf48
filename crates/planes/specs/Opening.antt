-- The planes of an opening, the same in each lane.
use Rattle.prepared.specs.declared.opening.Opening.{Opening}
use Rattle.planes.specs.declared.opening.OpeningPlanes.{OpeningPlanes}
use Rattle.planes.specs.Fill.{Even}

pub record OpeningIn (o : Opening) (p : OpeningPlanes) : Type 0 where
  pub trues_are : Even o.trues p.trues
  pub falses_are : Even o.falses p.falses
  pub heads_are : Even o.heads p.heads
