-- From the bytes of a file to the bytes of its report.
-- From: document 01, "The program `causes`"; document 02, [6] (the decided total), [7] (the lowest cost).
--
--   list_length             the slots of the program's list
--   judge_in st             the judge of what a file says
--   causes_said st          its causes; minimals_of st its minimal settings
--   rounds_of st            the rounds over all settings; decided_of st the decided atoms
--   lowest_of st            the lowest cost among its minimal settings
--   totals_of st            these three, and the number of minimal settings
--   shown_of a              those numbers of an answer of the question
--   verdicts_in st          its verdicts, in file order; verdict_numbers st their numbers
--   outcome_text said o     the text of an outcome of reading, where said gives that of what a file says
--   file_refusal f          0, or 2 where the file is too long
--   file_text said f        the text of the file f, where said gives that of what it says
--   report_text f           the report of the file f
use Rattle.std.specs.Prelude.{List, [], ◌∷◌, map, ℕ, leb, length, get_or, take}
use Rattle.words.specs.Choice.{unless_refused, check, first_failed}
use Rattle.table.specs.Filled.{padded}
use Rattle.program.specs.Case.{clause_size, constraint_size, formula_size, price_size}
use Rattle.program.specs.declared.cause.Causes.{Causes}
use Rattle.program.specs.Cause.{causes_of}
use Rattle.verdict.specs.declared.verdict.Verdict.{Verdict}
use Rattle.explanation.specs.Judge.{Judge, judge_of}
use Rattle.verdict.specs.Walk.{rounds_below, decided_below, verdicts_of, verdict_number}
use Rattle.question.specs.declared.operation.Answer.{Answer}
use Rattle.cost.specs.Cheapest.{lowest_cost}
use Rattle.question.specs.Operation.{settings_in, minimals_in, cost_in}
use Rattle.store.specs.Prices.{prices_of}
use Rattle.store.specs.Saying.{Said}
use Rattle.store.specs.Tables.{clause_words, constraint_words, formula_parts, case_said}
use Rattle.reader.specs.Reading.{Outcome, read_file}
use Rattle.wording.specs.declared.Totals.{Totals}
use Rattle.wording.specs.Text.{answer_text, refusal_text}

-- the program's list has 1,024 slots
abbrev pub list_length : ℕ
list_length = 1024

-- the tables that hold what a file says, in their sizes
abbrev pub clause_table : Said → List ℕ
clause_table st = padded clause_size (clause_words st.clauses)

abbrev pub constraint_table : Said → List ℕ
constraint_table st = padded constraint_size (constraint_words st.constraints)

abbrev pub formula_table : Said → List ℕ
formula_table st = padded formula_size (formula_parts st.queries)

abbrev pub price_table : Said → List ℕ
price_table st = padded price_size (prices_of st.costs)

abbrev pub causes_said : Said → Causes
causes_said st = causes_of (case_said st) (clause_table st)

abbrev pub judge_in : Said → Judge
judge_in st = judge_of (case_said st) (clause_table st) (constraint_table st) (formula_table st)

abbrev pub minimals_of : Said → List ℕ
minimals_of st = minimals_in (case_said st) (clause_table st) (constraint_table st) (formula_table st)

abbrev pub rounds_of : Said → ℕ
rounds_of st = rounds_below (judge_in st) (settings_in (case_said st) (clause_table st))

abbrev pub decided_of : Said → ℕ
decided_of st = decided_below (judge_in st) (settings_in (case_said st) (clause_table st))

abbrev pub lowest_of : Said → ℕ
lowest_of st = lowest_cost (cost_in (case_said st) (clause_table st) (price_table st)) (minimals_of st)

abbrev pub totals_of : Said → Totals
totals_of st = record {
  rounds = rounds_of st;
  decided = decided_of st;
  minimal = length (minimals_of st);
  cost = lowest_of st;
}

abbrev pub shown_of : Answer → Totals
shown_of a = record { rounds = a.rounds; decided = a.decided; minimal = a.minimal; cost = a.cost }

abbrev pub verdicts_in : Said → List Verdict
verdicts_in st = verdicts_of (judge_in st) (minimals_of st)

abbrev pub verdict_numbers : Said → List ℕ
verdict_numbers st = map verdict_number (verdicts_in st)

-- the name of an atom
abbrev pub name_of : Said → ℕ → List ℕ
name_of st a = get_or st.names a []

unfoldable pub said_text : Said → List ℕ
said_text st =
    answer_text (name_of st) (causes_said st) (verdict_numbers st) (totals_of st) (take list_length (minimals_of st))

abbrev pub outcome_text : (Said → List ℕ) → Outcome → List ℕ
outcome_text said (Outcome.case st) = said st
outcome_text said (Outcome.refused n k) = refusal_text n k

-- 0, or 2 the file is over 32,768 bytes
abbrev pub file_refusal : List ℕ → ℕ
file_refusal f = first_failed (check 2 (leb (length f) 32768) ∷ [])

unfoldable pub file_text : (Said → List ℕ) → List ℕ → List ℕ
file_text said f = unless_refused (file_refusal f) (outcome_text said (read_file f)) (refusal_text (file_refusal f) 0)

abbrev pub report_text : List ℕ → List ℕ
report_text f = file_text said_text f
