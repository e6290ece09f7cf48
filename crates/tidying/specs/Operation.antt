-- What the operation *tidy* answers and leaves in the lent output, on every input.
-- From: document 02, [8] ("An operation that writes a text answers its length in bytes"); document 01, "What each
-- operation refuses" ("For operations and tables that come later").
use Rattle.std.specs.Prelude.{List, ℕ, Result}
use Rattle.refusals.specs.declared.Refusal.{Refusal}
use Rattle.report.specs.Operation.{ReportShown}
use Rattle.tidying.specs.Text.{tidy_text}

-- the file f, the output at entry and at exit: refused with 19 where the output is shorter than the text
abbrev pub Tidied : List ℕ → List ℕ → Result ℕ Refusal → List ℕ → Type 0
Tidied f out r outAfter = ReportShown (tidy_text f) out r outAfter
