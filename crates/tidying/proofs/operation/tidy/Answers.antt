-- `tidy` meets its contract: where reading refuses, the text is the refusal's, and otherwise the tables hold what the
-- file says, and the text is that of their case. Assumes nothing.
use Rattle.store.specs.Lent.{lent}
use Rattle.report.proofs.Reported.{read_refused-shown, read-accepted}
use Rattle.tidying.specs.Text.{tidy_said}
use Rattle.tidying.proofs.Answers.{accepted_tidied}
use Rattle.tidying.proofs.operation.tidy.Goals as goal

pub returns-in-Err : goal.returns-in-Err
returns-in-Err c =
    let t = c.read-found.new in
    let filled = lent t.clauses t.constraints t.formula t.names t.prices in
    read_refused-shown {u = filled} c.in-Err.ensures tidy_said c.from.ensures c.show_refusal.ensures

pub returns : goal.returns
returns c =
    let t = c.read-found.new in
    let filled = lent t.clauses t.constraints t.formula t.names t.prices in
    accepted_tidied (read-accepted {u = filled} c.in-Ok.ensures) c.show_case.ensures
