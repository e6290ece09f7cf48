-- `formula::form_value` meets its contract: the form says which connective it is. Assumes nothing.
use mathlib.Core.Path.{◌∙◌}
use Rattle.logic.proofs.Spelling.{conjunction-value, disjunction-value, implication-value, equivalence-value}
use Rattle.nodes.proofs.formula.form_value.Goals as goal

pub returns-in-And : goal.returns-in-And
returns-in-And c = λ v f g p q. rw c.in-And.is (c.and.ensures ∙ conjunction-value v f g p q)

pub returns-in-Or : goal.returns-in-Or
returns-in-Or c = λ v f g p q. rw c.in-Or.is (c.or.ensures ∙ disjunction-value v f g p q)

pub returns-in-Then : goal.returns-in-Then
returns-in-Then c = λ v f g p q. rw c.in-Then.is (c.then.ensures ∙ implication-value v f g p q)

pub returns-in-Same : goal.returns-in-Same
returns-in-Same c = λ v f g p q. rw c.in-Same.is (c.same.ensures ∙ equivalence-value v f g p q)
