-- Answers to the goals of this function. Assumes nothing.
use Rattle.std.proofs.lemmas.Result.{err_from_is_err_and}
use borrow.Author.Rules.{rules}
use Rattle.reader.proofs.TakingLines.{no_lines_taken, taken_bounded, line_taken}
use Rattle.reader.proofs.TakingLines.{line_refused}
use Rattle.reader.proofs.EndChecks.{settings_countable, end_refused, end-accepted}
use Rattle.reader.proofs.read.take_lines.Goals as goal

pub loop-at-init : goal.loop-at-init
loop-at-init c = search (rules, no_lines_taken)

pub take_line-requires : goal.take_line-requires
take_line-requires c = search (rules, taken_bounded)

pub returns-in-Err : goal.returns-in-Err
returns-in-Err c = search (rules, line_refused)

pub overflow_add-at : goal.overflow_add-at
overflow_add-at c = search (rules, c.line_end-e.ensures, c.loop-at.invariant.places)

pub overflow_add-line : goal.overflow_add-line
overflow_add-line c = search (rules, c.loop-at.invariant.places, c.loop-at-test)

pub loop-at-smaller : goal.loop-at-smaller
loop-at-smaller c = search (rules, c.line_end-e.ensures, c.loop-at.invariant.places)

pub loop-at-preserved : goal.loop-at-preserved
loop-at-preserved c = search (rules, line_taken)

pub check_end-requires : goal.check_end-requires
check_end-requires c = search (rules, settings_countable)

pub returns-in_err-check_end : goal.returns-in_err-check_end
returns-in_err-check_end c =
    let p = err_from_is_err_and c.from_residual.result c.from_residual.ensures.1 in
    rw (p.1, p.2) (end_refused c.loop-at.invariant c.loop-at-test.false c.in_err-check_end.ensures)

pub returns : goal.returns
returns c = end-accepted c.loop-at.invariant c.loop-at-test.false c.in_ok-check_end.ensures
