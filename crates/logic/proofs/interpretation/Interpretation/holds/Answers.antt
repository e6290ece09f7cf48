-- `Interpretation::holds` meets its contract: an atom is true by the first word, its negation by the second.
-- Assumes nothing.
use mathlib.Core.Path.{sym, ◌∙◌}
use Rattle.logic.specs.Formula.{value_of}
use Rattle.logic.specs.Interpretation.{value_at}
use Rattle.logic.proofs.Values.{true_negated}
use Rattle.logic.proofs.Interpretations.{true_at, false_at}
use Rattle.logic.proofs.interpretation.Interpretation.holds.Goals as goal

pub returns-then-negated : goal.returns-then-negated
unfolding value_of
returns-then-negated c =
    let i = c.args.self in
    let a = c.args.atom in
    rw c.if-negated.true (c.test.ensures ∙ sym (true_negated (value_at i a) ∙ false_at i c.requires.1 a))

pub returns-else-negated : goal.returns-else-negated
unfolding value_of
returns-else-negated c =
    rw c.if-negated.false (c.test-else-negated.ensures ∙ sym (true_at c.args.self c.args.atom))
