-- The measure of `measure`: the number of nodes left.
use Rattle.std.proofs.Common.{◌-◌, length}
use Rattle.nodes.proofs.formula.+measure.Given as goal

abbrev pub decreases-measure : goal.decreases-measure
decreases-measure l = length l.nodes.now - l.at.now
