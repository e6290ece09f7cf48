-- `formula::eval` meets its contract, by a law for each way out. Assumes nothing.
use native.Mathlib.Omega.{arith}
use Rattle.nodes.proofs.formula.+eval.Goals as goal
use Rattle.logic.proofs.Reading.{node_unread, operand_unread, second_unread}
use Rattle.logic.proofs.Reading.{name_evaluated, not_evaluated, form_evaluated}

pub returns-in_err-node : goal.returns-in_err-node
returns-in_err-node t c = rw c.from_residual.ensures (node_unread _ _ c.in_err-node.ensures)

pub returns-in-Atom : goal.returns-in-Atom
returns-in-Atom t c =
    let n = rw c.in-Atom.is at c.in_ok-node.ensures in
    name_evaluated _ _ _ _ n.0 (omega (arith, n)) (rw n.1.0 c.value.ensures)

pub returns-in_err-a-in-Not : goal.returns-in_err-a-in-Not
returns-in_err-a-in-Not t c =
    let n = rw c.in-Not.is at c.in_ok-node.ensures in
    rw c.from_residual-in_err-a-in-Not.ensures
    (operand_unread _ _ n.0 (omega (arith, n)) c.in_err-a-in-Not.ensures)

pub returns-in_ok-a-in-Not : goal.returns-in_ok-a-in-Not
returns-in_ok-a-in-Not t c =
    let n = rw c.in-Not.is at c.in_ok-node.ensures in
    not_evaluated _ _ _ _ _ n.0 c.in_ok-a-in-Not.ensures _ n.1 c.not.ensures

pub returns-in_err-a-in-Two : goal.returns-in_err-a-in-Two
returns-in_err-a-in-Two t c =
    let n = rw c.in-Two.is at c.in_ok-node.ensures in
    rw c.from_residual-in_err-a-in-Two.ensures
    (operand_unread _ _ n.0 (omega (arith, n)) c.in_err-a-in-Two.ensures)

pub returns-in_err-b-in-Two : goal.returns-in_err-b-in-Two
returns-in_err-b-in-Two t c =
    let n = rw c.in-Two.is at c.in_ok-node.ensures in
    rw c.from_residual-in_err-b-in-Two.ensures
    (second_unread _ _ _ _ _ n.0 c.in_ok-a-in-Two.ensures (omega (arith, n)) c.in_err-b-in-Two.ensures)

pub returns-in_ok-b-in-Two : goal.returns-in_ok-b-in-Two
returns-in_ok-b-in-Two t c =
    let n = rw c.in-Two.is at c.in_ok-node.ensures in
    form_evaluated _ _ _ _ _ n.0 c.in_ok-a-in-Two.ensures _ _ _ _ n.1 c.in_ok-b-in-Two.ensures
    (c.form_value.ensures _)
