-- `tidy` writes exactly the text of the bytes read, since every text fits the output. Assumes nothing.
use mathlib.Core.Path.{refl, sym}
use native.Mathlib.Omega.{arith}
use lib.Seq.{length-take-le}
use Rattle.output.proofs.Showing.{shown_whole}
use Rattle.report.proofs.Showing.{report_within, report_is_ok}
use Rattle.tidying.proofs.Theorems.{tidy_fits}
use Rattle.tidy.proofs.TidyOperation.write.Goals as goal

pub unwrap-length-requires : goal.unwrap-length-requires
unwrap-length-requires g c =
    let room = tidy_fits c.args.input.now in report_is_ok _ c.tidy.ensures (omega (arith, room))

pub slice_bounds-out-end : goal.slice_bounds-out-end
slice_bounds-out-end g c = report_within (rw c.unwrap-length.ensures at c.tidy.ensures)

pub slice_bounds-write_whole-end : goal.slice_bounds-write_whole-end
slice_bounds-write_whole-end g c =
    sym (length-take-le _ _ (report_within (rw c.unwrap-length.ensures at c.tidy.ensures)))

pub returns : goal.returns
returns g c = (_, refl, rw (shown_whole (rw c.unwrap-length.ensures at c.tidy.ensures)) at c.write_whole.ensures)
