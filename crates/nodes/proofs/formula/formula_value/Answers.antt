-- `formula::formula_value` meets its contract: nodes that are exactly one formula are the one read from place 0, a name
-- or any other. Assumes nothing.
use native.Mathlib.Omega.{arith}
use Rattle.logic.specs.Interpretation.{value_at}
use Rattle.logic.proofs.Reading.{name_evaluated}
use Rattle.logic.proofs.Spelling.{one-formula-spells}
use Rattle.nodes.proofs.formula.formula_value.Goals as goal

pub returns-in-Some-Atom : goal.returns-in-Some-Atom
returns-in-Some-Atom c =
    let a = c.args in
    let n = rw c.in-Some-Atom.field-0-is at c.in-Some-Atom.ensures in
    let name = name_evaluated (value_at a.i) a.nodes.now 0 _ n.0 (omega (arith, n)) (rw n.1.0 c.value.ensures) in
    λ k e. name.reads.value-is _ _ (one-formula-spells k _ e)

pub returns-in-Some : goal.returns-in-Some
returns-in-Some c = λ n e. c.in-Some.ensures.reads.value-is _ _ (one-formula-spells n _ e)

pub returns-in-None : goal.returns-in-None
returns-in-None c = λ n e. absurd (c.in-None.ensures _ _ (one-formula-spells n _ e))
