-- What is claimed of the text of layers is so. Assumes nothing.
use mathlib.Core.Path.{◌∙◌}
use native.Mathlib.Omega.{arith}
use lib.Seq.{take_all}
use Rattle.report.proofs.FileTexts.{file-short, file-cut, file-length}
use Rattle.layer_report.specs.Report.{layers_said}
use Rattle.layer_report.specs.Claims.{layers_limit, LayersFit, LayersCut}
use Rattle.layer_report.proofs.Sayings.{layers_length}

pub layers_fit : LayersFit
layers_fit f t h =
    rw h.text-is
    (file-length (layers_said h.ring) f layers_limit (omega arith)
    (λ st z e. layers_length f st e h.ring (h.ring-is st z e)))

pub layers_cut : LayersCut
layers_cut f t k l h = record {
  ring = h.ring;
  ring-is = λ st z e. let n = file-short f z in rw (take_all k f (omega arith)) at (h.ring-is st) z e;
  text-is = h.text-is ∙ file-cut (layers_said h.ring) f k l;
}
