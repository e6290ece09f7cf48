-- From the bytes of a file to the text of its case, written back.
-- From: document 02, [8]; document 01, "The program `causes`" ("(refused number line)").
--
--   tables_said st     the tables that hold what a file says, in their sizes
--   longest_text       the most bytes of a text
--   written_text c t   the text of the case c with the tables t, or that of the refusal of its writing, with line 0
--   tidy_said st       that of what a file says
--   tidy_text f        that of the file f, or the text of the refusal of its reading
use Rattle.std.specs.Prelude.{List, ℕ}
use Rattle.words.specs.Choice.{unless_refused}
use Rattle.table.specs.Filled.{padded}
use Rattle.program.specs.declared.case.Case.{Case}
use Rattle.program.specs.Case.{name_size}
use Rattle.names.specs.Names.{rows_of}
use Rattle.store.specs.Lent.{Lent, lent}
use Rattle.store.specs.Saying.{Said}
use Rattle.store.specs.Tables.{case_said}
use Rattle.wording.specs.Text.{refusal_text}
use Rattle.writing.specs.Operation.{case_text, write_refusal}
use Rattle.report.specs.Report.{clause_table, constraint_table, formula_table, price_table, file_text}

abbrev pub tables_said : Said → Lent
tables_said st =
    lent (clause_table st) (constraint_table st) (formula_table st) (padded name_size (rows_of st.names))
    (price_table st)

abbrev pub longest_text : ℕ
longest_text = 32768

-- an output of longest_text bytes is long enough
abbrev pub written_text : Case → Lent → List ℕ
written_text c t =
    let n = write_refusal c t longest_text in
    unless_refused n (case_text c t) (refusal_text n 0)

unfoldable pub tidy_said : Said → List ℕ
tidy_said st = written_text (case_said st) (tables_said st)

abbrev pub tidy_text : List ℕ → List ℕ
tidy_text f = file_text tidy_said f
