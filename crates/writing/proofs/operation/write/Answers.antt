-- `operation::write` meets its contract: a law for each refusal, and for the text. Assumes nothing.
use mathlib.Core.Path.{sym, ◌∙◌}
use Rattle.store.specs.LentTables.{lent_of}
use Rattle.writing.specs.Steps.{Fit}
use Rattle.writing.proofs.Fitting.{fit_room}
use Rattle.writing.proofs.Refusals.{tables-short, not-writable, fits, line-long, text-long, output_short}
use Rattle.writing.proofs.Refusals.{text-written}
use Rattle.writing.proofs.operation.write.Goals as goal
use Rattle.writing.proofs.operation.write.Goals.{Else-not-is_writable}
use Rattle.writing.proofs.operation.write.Goals.{then-page-via-then-page, then-page-via-else-page+then-page-gt32768}

-- behind both tests
fit : (c : Else-not-is_writable) → Fit c.args.c (lent_of c.args.t)
fit c = fits c.tables_fit.ensures c.if-not-tables_fit.false c.is_writable.ensures c.if-not-is_writable.false

pub returns-then-not-tables_fit : goal.returns-then-not-tables_fit
returns-then-not-tables_fit c = tables-short _ _ _ c.tables_fit.ensures c.if-not-tables_fit.true

pub is_writable-requires : goal.is_writable-requires
is_writable-requires c = sym c.tables_fit.ensures ∙ c.if-not-tables_fit.false

pub returns-then-not-is_writable : goal.returns-then-not-is_writable
returns-then-not-is_writable c =
    not-writable _ _ _ c.tables_fit.ensures c.if-not-tables_fit.false c.is_writable.ensures c.if-not-is_writable.true

pub case_lines-page-requires : goal.case_lines-page-requires
case_lines-page-requires c =
    let f = fit (goal.at.case_lines-page-requires c).Else-not-is_writable in
    (f, fit_room _ _ f)

pub returns-then-page : goal.returns-then-page
returns-then-page c =
    let f = fit (goal.at.returns-then-page c).Else-not-is_writable in
    elim c.then-page.branch [
      | then-page-via-then-page w ↦ line-long _ _ _ f c.case_lines-page.ensures w.if-page.true
      | then-page-via-else-page+then-page-gt32768 w ↦
          text-long _ _ _ f c.case_lines-page.ensures w.if-page.false w.if-page-gt32768.true
    ]

pub returns-then-out-page : goal.returns-then-out-page
returns-then-out-page c =
    output_short _ _ _ (fit (goal.at.returns-then-out-page c).Else-not-is_writable) c.case_lines-page.ensures
    c.if-page.false c.if-page-gt32768.false c.if-out-page.true

pub case_lines-requires : goal.case_lines-requires
case_lines-requires c =
    let f = fit (goal.at.case_lines-requires c).Else-not-is_writable in
    (f, fit_room _ _ f)

pub returns : goal.returns
returns c =
    text-written _ _ _ (fit (goal.at.returns c).Else-not-is_writable) c.case_lines-page.ensures c.if-page.false
    c.if-page-gt32768.false c.if-out-page.false c.case_lines.ensures
