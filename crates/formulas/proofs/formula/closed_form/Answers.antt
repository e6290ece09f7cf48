-- `formula::closed_form` meets its contract: a closing bracket stands next, or another token. Assumes nothing.
use Rattle.formulas.proofs.Formulas.{closing-closed, other-closed}
use Rattle.formulas.proofs.formula.closed_form.Goals as goal

pub returns-in_err-next : goal.returns-in_err-next
returns-in_err-next c =
    rw c.from_residual.ensures
    (other-closed c.args.l.now c.args.at c.args.depth c.in_err-next.ensures)

pub returns : goal.returns
returns c = closing-closed c.in_ok-next.ensures
