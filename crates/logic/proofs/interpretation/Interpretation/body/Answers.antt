-- `Interpretation::body` meets its contract: a law for each value. Assumes nothing.
use native.Mathlib.Omega.{arith}
use Rattle.logic.proofs.Interpretations.{Good}
use Rattle.logic.proofs.Bodies.{body_false, body_true, body_unknown}
use Rattle.logic.proofs.interpretation.Interpretation.body.Goals as goal

pub returns-then-against-ne0 : goal.returns-then-against-ne0
returns-then-against-ne0 c =
    let g : Good c.args.self = record { trues_fit = omega arith; falses_fit = omega arith; disjoint = c.requires } in
    body_false _ _ _ g c.ranges.plain.fits c.ranges.negated.fits c.if-against-ne0.true

pub returns-then-missing-eq0 : goal.returns-then-missing-eq0
returns-then-missing-eq0 c =
    let g : Good c.args.self = record { trues_fit = omega arith; falses_fit = omega arith; disjoint = c.requires } in
    body_true _ _ _ g c.ranges.plain.fits c.ranges.negated.fits c.if-missing-eq0.true

pub returns-else-missing-eq0 : goal.returns-else-missing-eq0
returns-else-missing-eq0 c =
    let g : Good c.args.self = record { trues_fit = omega arith; falses_fit = omega arith; disjoint = c.requires } in
    body_unknown _ _ _ g c.ranges.plain.fits c.ranges.negated.fits c.if-against-ne0.false c.if-missing-eq0.false
