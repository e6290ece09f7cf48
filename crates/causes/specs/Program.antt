-- What the program writes of its input.
-- From: document 01, "The program `causes`".
use Rattle.std.specs.Prelude.{◌≡◌, List, ℕ}
use Rattle.report.specs.Report.{report_text}

-- t is the report of the input i
abbrev pub IsReport : List ℕ → List ℕ → Type 0
IsReport i t = t ≡ report_text i
