-- `line::form_of` meets its contract: each return is one law of a line by its first tokens. Assumes nothing.
use Rattle.std.proofs.Common.{rules}
use Rattle.grammar.proofs.Forms.{line-skipped, line-other, line_wordless, line-kindless, line-found}
use Rattle.grammar.proofs.line.form_of.Goals as goal

pub returns-in-End : goal.returns-in-End
returns-in-End c = search (rules, line-skipped)

pub returns-in_err-a-in-Open : goal.returns-in_err-a-in-Open
returns-in_err-a-in-Open c =
    rw c.from_residual.ensures (line_wordless c.token.ensures c.in-Open.is c.in_err-a-in-Open.ensures)

pub returns-in_err-kind-in-Open : goal.returns-in_err-kind-in-Open
returns-in_err-kind-in-Open c =
    rw c.from_residual-in_err-kind-in-Open.ensures
    (line-kindless c.token.ensures c.in-Open.is c.in_ok-a-in-Open.ensures c.in_err-kind-in-Open.ensures)

pub returns-in_ok-kind-in-Open : goal.returns-in_ok-kind-in-Open
returns-in_ok-kind-in-Open c =
    line-found c.token.ensures c.in-Open.is c.in_ok-a-in-Open.ensures c.in_ok-kind-in-Open.ensures.0
    c.form_of_kind.ensures

pub returns-in_default : goal.returns-in_default
returns-in_default c = search (rules, line-other)
