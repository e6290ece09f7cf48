-- `formula::head_at` meets its contract, by a law for each way out. Assumes nothing.
use Rattle.std.proofs.Common.{rules}
use Rattle.formulas.proofs.FirstItem.{found_begins}
use Rattle.formulas.proofs.Formulas.{name_found, opening-head, other-head, form-head}
use Rattle.formulas.proofs.formula.head_at.Goals as goal

pub returns-in-Word : goal.returns-in-Word
returns-in-Word c = rw c.then_some.ensures (name_found c.token.ensures c.in-Word.is c.is_name.ensures)

pub returns-in_err-a-in-Open : goal.returns-in_err-a-in-Open
returns-in_err-a-in-Open c =
    rw c.from_residual.ensures (opening-head c.token.ensures c.in-Open.is c.in_err-a-in-Open.ensures)

pub returns-in_err-node-in-Open : goal.returns-in_err-node-in-Open
returns-in_err-node-in-Open c =
    rw c.from_residual-in_err-node-in-Open.ensures
    (other-head c.token.ensures c.in-Open.is c.in_ok-a-in-Open.ensures c.node_of.ensures c.in_err-node-in-Open.was)

pub returns-in_ok-node-in-Open : goal.returns-in_ok-node-in-Open
returns-in_ok-node-in-Open c =
    form-head c.token.ensures c.in-Open.is c.in_ok-a-in-Open.ensures c.node_of.ensures c.in_ok-node-in-Open.was

pub returns-in_default : goal.returns-in_default
returns-in_default c = search (rules, found_begins)
