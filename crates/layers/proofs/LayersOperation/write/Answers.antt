-- `layers` writes exactly a text of the bytes read, since every text fits the output. Assumes nothing.
use mathlib.Core.Path.{sym}
use native.Mathlib.Omega.{arith}
use lib.Seq.{length-take-le}
use Rattle.output.proofs.Showing.{shown_whole}
use Rattle.report.proofs.Showing.{report_within, report_is_ok}
use Rattle.layer_report.proofs.Theorems.{layers_fit}
use Rattle.layers.proofs.LayersOperation.write.Goals as goal

pub unwrap-length-requires : goal.unwrap-length-requires
unwrap-length-requires g c =
    let s = c.layer_report.ensures in
    let room = layers_fit c.args.input.now s.text s.text_of in
    report_is_ok _ s.shown (omega (arith, room))

pub slice_bounds-out-end : goal.slice_bounds-out-end
slice_bounds-out-end g c = report_within (rw c.unwrap-length.ensures at c.layer_report.ensures.shown)

pub slice_bounds-write_whole-end : goal.slice_bounds-write_whole-end
slice_bounds-write_whole-end g c =
    sym (length-take-le _ _ (report_within (rw c.unwrap-length.ensures at c.layer_report.ensures.shown)))

pub returns : goal.returns
returns g c =
    let s = c.layer_report.ensures in
    (s.text, s.text_of, rw (shown_whole (rw c.unwrap-length.ensures at s.shown)) at c.write_whole.ensures)
