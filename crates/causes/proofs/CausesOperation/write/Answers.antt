-- `causes` writes exactly the report of the bytes read, where it fits the output. Assumes nothing.
use mathlib.Core.Path.{refl, sym}
use lib.Seq.{length-take-le}
use Rattle.output.proofs.Showing.{shown_whole}
use Rattle.report.proofs.Showing.{report_within}
use Rattle.causes.proofs.CausesOperation.write.Goals as goal

pub slice_bounds-out-end : goal.slice_bounds-out-end
slice_bounds-out-end g c = report_within c.in-Ok.ensures

pub slice_bounds-write_whole-end : goal.slice_bounds-write_whole-end
slice_bounds-write_whole-end g c = sym (length-take-le _ _ (report_within c.in-Ok.ensures))

pub returns-in-Ok : goal.returns-in-Ok
returns-in-Ok g c = (_, refl, rw (shown_whole c.in-Ok.ensures) at c.write_whole.ensures)

pub returns-in-Err : goal.returns-in-Err
returns-in-Err g c = (_, refl, c.write_long.ensures)
