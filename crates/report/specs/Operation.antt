-- What the operation *report* answers and leaves in the lent output, on every input.
-- From: document 01, "The program `causes`" and "What each operation refuses" ("For operations and tables that come
-- later").
--
--   report_refusal   0, or 19 the lent output is shorter than the text
--   ReportShown      the answer and the output at exit, for a text
--   Reported         the same for the report of a file
use Rattle.std.specs.Prelude.{List, [], ◌∷◌, ℕ, leb, length, Result}
use Rattle.words.specs.Choice.{check, first_failed}
use Rattle.refusals.specs.declared.Refusal.{Refusal}
use Rattle.output.specs.Showing.{Shown}
use Rattle.report.specs.Report.{report_text}

-- t is the text, n the length of the output
unfoldable pub report_refusal : List ℕ → ℕ → ℕ
report_refusal t n = first_failed (check 19 (leb (length t) n) ∷ [])

-- the text t, the output at entry and at exit
abbrev pub ReportShown : List ℕ → List ℕ → Result ℕ Refusal → List ℕ → Type 0
ReportShown t out r outAfter = Shown (report_refusal t (length out)) t out r outAfter

-- the file f, the output at entry and at exit
abbrev pub Reported : List ℕ → List ℕ → Result ℕ Refusal → List ℕ → Type 0
Reported f out r outAfter = ReportShown (report_text f) out r outAfter
