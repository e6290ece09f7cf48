-- `met` meets its contract: the lanes in which the body is false, or those in which it isn't true. Assumes nothing.
use Rattle.explanation.proofs.Explaining.{never_lanes, avoid_lanes}
use Rattle.explanation.proofs.explain.met.Goals as goal

pub returns-then-kind-eq0 : goal.returns-then-kind-eq0
returns-then-kind-eq0 c = never_lanes _ _ c.args.b c.if-kind-eq0.true

pub returns : goal.returns
returns c = avoid_lanes _ _ c.args.b _ c.if-kind-eq0.false c.lacking.ensures
