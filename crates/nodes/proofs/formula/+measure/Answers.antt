-- `formula::measure` meets its contract, by a law for each way out. Assumes nothing.
use native.Mathlib.Omega.{arith}
use Rattle.logic.proofs.Reading.{node_unmeasured, outside_unmeasured, operand_unmeasured, not_unmeasured}
use Rattle.logic.proofs.Reading.{second_unmeasured, form_unmeasured, name_measured, not_measured, form_measured}
use Rattle.nodes.proofs.Nodes.{measured_deeper, place_few}
use Rattle.nodes.proofs.formula.+measure.Goals as goal

pub returns-in_err-node : goal.returns-in_err-node
returns-in_err-node t c = rw c.from_residual.ensures (node_unmeasured _ _ _ c.in_err-node.ensures)

pub returns-then-atoms-atom : goal.returns-then-atoms-atom
returns-then-atoms-atom t c =
    let n = rw c.in-Atom.is at c.in_ok-node.ensures in
    outside_unmeasured _ _ _ n.0 (omega (arith, n)) (omega (arith, n))

pub returns-else-atoms-atom : goal.returns-else-atoms-atom
returns-else-atoms-atom t c =
    let n = rw c.in-Atom.is at c.in_ok-node.ensures in
    name_measured _ _ _ n.0 (omega (arith, n)) (omega (arith, n))

pub returns-in_err-a-in-Not : goal.returns-in_err-a-in-Not
returns-in_err-a-in-Not t c =
    let n = rw c.in-Not.is at c.in_ok-node.ensures in
    rw c.from_residual-in_err-a-in-Not.ensures
    (operand_unmeasured _ _ _ n.0 (omega (arith, n)) c.in_err-a-in-Not.ensures)

pub returns-in_ok-a-in-Not : goal.returns-in_ok-a-in-Not
returns-in_ok-a-in-Not t c =
    let n = rw c.in-Not.is at c.in_ok-node.ensures in
    let a = c.in_ok-a-in-Not.ensures in
    measured_deeper _ _ _ _ _ _ c.deeper.ensures (not_unmeasured _ _ _ _ _ n.0 a n.1) (not_measured _ _ _ _ _ n.0 a n.1)

pub returns-in_err-a-in-Two : goal.returns-in_err-a-in-Two
returns-in_err-a-in-Two t c =
    let n = rw c.in-Two.is at c.in_ok-node.ensures in
    rw c.from_residual-in_err-a-in-Two.ensures
    (operand_unmeasured _ _ _ n.0 (omega (arith, n)) c.in_err-a-in-Two.ensures)

pub returns-in_err-b-in-Two : goal.returns-in_err-b-in-Two
returns-in_err-b-in-Two t c =
    let n = rw c.in-Two.is at c.in_ok-node.ensures in
    rw c.from_residual-in_err-b-in-Two.ensures
    (second_unmeasured _ _ _ _ _ n.0 c.in_ok-a-in-Two.ensures (omega (arith, n)) c.in_err-b-in-Two.ensures)

pub returns-in_ok-b-in-Two : goal.returns-in_ok-b-in-Two
returns-in_ok-b-in-Two t c =
    let n = rw c.in-Two.is at c.in_ok-node.ensures in
    let a = c.in_ok-a-in-Two.ensures in
    let b = c.in_ok-b-in-Two.ensures in
    let l = place_few c.in-Two.field-0 in
    measured_deeper _ _ _ _ _ _ c.deeper-in-Two.ensures
    (form_unmeasured _ _ _ _ _ n.0 a _ _ _ n.1 l b c.max.ensures)
    (form_measured _ _ _ _ _ n.0 a _ _ _ n.1 l b c.max.ensures)
