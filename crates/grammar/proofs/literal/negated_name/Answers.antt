-- `literal::negated_name` meets its contract: each return is one law of the tokens behind the bracket. Assumes nothing.
use Rattle.grammar.proofs.Literals.{opened_wordless, opened-none, opened-other, negation_unnamed, negation-unclosed}
use Rattle.grammar.proofs.Literals.{negation-closed}
use Rattle.grammar.proofs.literal.negated_name.Goals as goal

pub returns-in_err-a : goal.returns-in_err-a
returns-in_err-a c = rw c.from_residual.ensures (opened_wordless c.args.l.now c.args.at c.in_err-a.ensures)

pub returns-in_err-node_of : goal.returns-in_err-node_of
returns-in_err-node_of c =
    rw c.from_residual-in_err-node_of.ensures (opened-none c.in_ok-a.ensures c.in_err-node_of.ensures)

pub returns-then-branch-ne-NOT : goal.returns-then-branch-ne-NOT
returns-then-branch-ne-NOT c = opened-other c.in_ok-a.ensures c.in_ok-node_of.ensures c.if-branch-ne-NOT.true

pub returns-in_err-b : goal.returns-in_err-b
returns-in_err-b c =
    rw c.from_residual-in_err-b.ensures
    (negation_unnamed c.in_ok-a.ensures c.in_ok-node_of.ensures c.if-branch-ne-NOT.false c.in_err-b.ensures)

pub returns-in_err-next : goal.returns-in_err-next
returns-in_err-next c =
    rw c.from_residual-in_err-next.ensures
    (negation-unclosed c.in_ok-a.ensures c.in_ok-node_of.ensures c.if-branch-ne-NOT.false c.in_ok-b.ensures
    c.in_err-next.ensures)

pub returns : goal.returns
returns c =
    negation-closed c.in_ok-a.ensures c.in_ok-node_of.ensures c.if-branch-ne-NOT.false c.in_ok-b.ensures
    c.in_ok-next.ensures
