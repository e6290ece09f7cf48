-- What the operation *layer report* answers and leaves in the lent output, on every input.
-- From: document 02, request [3]; document 01, "What each operation refuses" ("For operations and tables that come
-- later").
use Rattle.std.specs.Prelude.{List, ℕ, Result}
use Rattle.refusals.specs.declared.Refusal.{Refusal}
use Rattle.report.specs.Operation.{ReportShown}
use Rattle.layer_report.specs.Report.{LayersOf}

-- the file f, the output at entry and at exit: refused with 19 where the output is shorter than the text
pub record LayersReported (f out : List ℕ) (r : Result ℕ Refusal) (outAfter : List ℕ) : Type 0 where
  pub text : List ℕ
  pub text_of : LayersOf f text
  pub shown : ReportShown text out r outAfter
