-- `line::clause_form` meets its contract: each return is one law of the tokens behind the line's word. Assumes nothing.
use Rattle.grammar.proofs.Forms.{clause_unnamed, clause_unfit, clause-found}
use Rattle.grammar.proofs.line.clause_form.Goals as goal

pub returns-in_err-a : goal.returns-in_err-a
returns-in_err-a c =
    rw c.from_residual.ensures (clause_unnamed c.args.l.now c.args.at c.args.kind c.requires c.in_err-a.ensures)

pub returns-in_err-literals : goal.returns-in_err-literals
returns-in_err-literals c =
    rw c.from_residual-in_err-literals.ensures (clause_unfit c.in_ok-a.ensures c.requires c.in_err-literals.ensures)

pub returns : goal.returns
returns c = clause-found c.in_ok-a.ensures c.requires c.in_ok-literals.ensures
