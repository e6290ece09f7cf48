-- `load::answer` meets its contract: every text fits the output. Assumes nothing.
use native.Mathlib.Omega.{arith}
use Rattle.wording.proofs.Lengths.{refusal-length}
use Rattle.report.proofs.Showing.{report_is_ok}
use Rattle.load.proofs.Answers.{text-answered, refusal-answered}
use Rattle.load.proofs.answer.Goals as goal

pub returns-in-Ok : goal.returns-in-Ok
returns-in-Ok c = text-answered _ _ _ (omega arith) c.in-Ok.ensures

pub unwrap-requires : goal.unwrap-requires
unwrap-requires c =
    report_is_ok _ c.show_refusal.ensures (omega (arith, refusal-length c.from.result 0))

pub returns-in-Err : goal.returns-in-Err
returns-in-Err c =
    let shown = rw (c.from.ensures, c.unwrap.ensures) at c.show_refusal.ensures in
    refusal-answered _ _ _ (omega arith) c.in-Err.ensures shown
