-- `minimals_of` meets its contract, bit by bit (`minimal-lanes`). Assumes nothing.
use Rattle.cost.proofs.Lanes.{minimal-lanes}
use Rattle.cost.proofs.cheapest.minimals_of.Goals as goal

pub returns : goal.returns
returns c =
    let a = c.args in
    minimal-lanes a.e a.larger a.m a.first _ c.ranges.larger.fits c.lowest.ensures
