-- `formula::formula_at` meets its contract, by a law for each way out. Assumes nothing.
use Rattle.std.proofs.Common.{rules, ◌+◌, ◌<◌, ◌^◌}
use Rattle.formulas.proofs.Formulas.{name_parsed, operand_parsed, first-depth}
use Rattle.formulas.proofs.Formulas.{negation_parsed, second_parsed, second-depth, joined_parsed}
use Rattle.formulas.proofs.formula.+formula_at.Goals as goal

pub returns-in-Name : goal.returns-in-Name
returns-in-Name t c = search (rules, name_parsed)

pub returns-in_err-first-in-Form : goal.returns-in_err-first-in-Form
returns-in_err-first-in-Form t c =
    rw c.from_residual-in_err-first-in-Form.ensures
    (operand_parsed _ _ c.in_ok-next.ensures c.in-Form.is c.in_err-first-in-Form.ensures)

pub overflow_add-first : goal.overflow_add-first
overflow_add-first t c =
    let first = c.in_ok-first-in-Form in
    let fits : first.first.depth + 1 < 2 ^ 64 =
    first-depth _ _ c.in_ok-next.ensures c.in-Form.is first.ensures (search rules) in
    search rules

pub returns-then-node-eq-NOT : goal.returns-then-node-eq-NOT
returns-then-node-eq-NOT t c = search (rules, negation_parsed)

pub returns-in_err-second-in-Form : goal.returns-in_err-second-in-Form
returns-in_err-second-in-Form t c =
    rw c.from_residual-in_err-second-in-Form.ensures
    (second_parsed _ _ c.in_ok-next.ensures c.in-Form.is c.in_ok-first-in-Form.ensures c.if-node-eq-NOT.false
    c.in_err-second-in-Form.ensures)

pub overflow_add-max : goal.overflow_add-max
overflow_add-max t c =
    let first = c.in_ok-first-in-Form in
    let fits : c.max.result + 1 < 2 ^ 64 =
    second-depth _ _ c.in_ok-next.ensures c.in-Form.is first.ensures c.if-node-eq-NOT.false
    c.in_ok-second-in-Form.ensures (search rules) (search rules) in
    search rules

pub returns-in_ok-second-in-Form : goal.returns-in_ok-second-in-Form
returns-in_ok-second-in-Form t c = search (rules, joined_parsed)
