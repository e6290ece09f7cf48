-- `take::take_line` meets its contract, by what the look at the line found. Assumes nothing.
use Rattle.std.proofs.lemmas.Result.{err_from_is_err_and}
use Rattle.checks.proofs.Taking.{line_refused, comment_taken, line_taken}
use Rattle.checks.proofs.take.take_line.Goals as goal

pub returns-in_err-look : goal.returns-in_err-look
returns-in_err-look c =
    let p = err_from_is_err_and c.from_residual.result c.from_residual.ensures.1 in
    rw (p.1, p.2) (line_refused c.in_err-look.ensures)

pub returns-in-Comment : goal.returns-in-Comment
returns-in-Comment c = comment_taken (rw c.in-Comment.is at c.in_ok-look.ensures)

pub returns-in-Line : goal.returns-in-Line
returns-in-Line c = line_taken (rw c.in-Line.is at c.in_ok-look.ensures) c.take_form.ensures

pub take_form-requires : goal.take_form-requires
take_form-requires c =
    let told = rw c.in-Line.is at c.in_ok-look.ensures in
    (c.requires.0, c.requires.1, told.told)
