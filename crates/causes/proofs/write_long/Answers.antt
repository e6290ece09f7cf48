-- `write_long` writes exactly the report of the file, since every report fits the output. Assumes nothing.
use mathlib.Core.Path.{sym}
use native.Mathlib.Omega.{arith}
use lib.Seq.{length-take-le}
use Rattle.output.proofs.Showing.{shown_whole}
use Rattle.report.proofs.Showing.{report_within, report_is_ok}
use Rattle.report.proofs.Theorems.{report_fits}
use Rattle.causes.proofs.write_long.Goals as goal

pub unwrap-length-requires : goal.unwrap-length-requires
unwrap-length-requires g c =
    let room = report_fits c.args.file.now in report_is_ok _ c.report.ensures (omega (arith, room))

pub slice_bounds-out-end : goal.slice_bounds-out-end
slice_bounds-out-end g c = report_within (rw c.unwrap-length.ensures at c.report.ensures)

pub slice_bounds-write_whole-end : goal.slice_bounds-write_whole-end
slice_bounds-write_whole-end g c =
    sym (length-take-le _ _ (report_within (rw c.unwrap-length.ensures at c.report.ensures)))

pub returns : goal.returns
returns g c = rw (shown_whole (rw c.unwrap-length.ensures at c.report.ensures)) at c.write_whole.ensures
