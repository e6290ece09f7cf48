-- The measure of `eval`: the number of nodes left.
use Rattle.std.proofs.Common.{◌-◌, length}
use Rattle.nodes.proofs.formula.+eval.Given as goal

abbrev pub decreases-eval : goal.decreases-eval
decreases-eval l = length l.nodes.now - l.at.now
