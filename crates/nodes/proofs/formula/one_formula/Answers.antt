-- `formula::one_formula` meets its contract: a formula stands at place 0 and ends where the nodes end. Assumes nothing.
use Rattle.logic.proofs.Reading.{unmeasured_none, whole_one}
use Rattle.nodes.proofs.formula.one_formula.Goals as goal

pub returns-in-Some : goal.returns-in-Some
returns-in-Some c = whole_one _ _ _ _ c.in-Some.ensures

pub returns-in-None : goal.returns-in-None
returns-in-None c = unmeasured_none _ _ c.in-None.ensures
