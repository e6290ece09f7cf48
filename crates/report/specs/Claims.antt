-- What is claimed of reports beyond the contract of *report*. Proved in proofs/Theorems.antt.
-- From: document 01, "The program `causes`"; document 02, [6] (the decided total), [7] (the lowest
-- cost).
--
--   ReportFits          how long a report can be
--   ReportCut           a file that is too long, cut behind the limit
--   verdict_on st g     the verdict on the formula g of what a file says
--   VerdictsOnQueries   the verdicts are those on the file's queries
--   OneQuery            the report of a file with one query
use Rattle.std.specs.Prelude.{◌≡◌, List, [], ◌∷◌, ◌++◌, map, ℕ, ◌≤◌, ◌<◌, length, take}
use Rattle.logic.specs.Formula.{Formula, value_of}
use Rattle.program.specs.Setting.{additions_of}
use Rattle.explanation.specs.Explanation.{settled_with}
use Rattle.explanation.specs.Judge.{Judge}
use Rattle.verdict.specs.declared.verdict.Verdict.{Verdict}
use Rattle.verdict.specs.Walk.{verdict_of, verdict_number}
use Rattle.store.specs.Saying.{Said}
use Rattle.store.specs.Tables.{case_said}
use Rattle.reader.specs.Reading.{Outcome, read_file}
use Rattle.reader.specs.Contents.{file_content}
use Rattle.wording.specs.Text.{verdict_line, rounds_line, decided_line, minimal_line, cause_lines, cheapest_lines}
use Rattle.report.specs.Report.{list_length, clause_table, causes_said, judge_in, minimals_of, rounds_of, decided_of}
use Rattle.report.specs.Report.{lowest_of, verdicts_in, name_of, report_text}

-- a bound on the length of any report: 16 verdicts, the three lines behind them, 1,024 settings of 15 causes with
-- names of 16 bytes, and the line of the lowest cost
abbrev pub report_limit : ℕ
report_limit = 392640

-- an output of that many bytes is long enough for the report of any file
abbrev pub ReportFits : Type 0
ReportFits = (f : List ℕ) → length (report_text f) ≤ report_limit

-- the first k bytes of a file give its report, where k is over the limit of 32,768
abbrev pub ReportCut : Type 0
ReportCut = (f : List ℕ) (k : ℕ) → 32768 < k → report_text (take k f) ≡ report_text f

-- the judge of what a file says, with the formula g as its one query
abbrev pub judge_on : Said → Formula → Judge
judge_on st g = record {
  explains = (judge_in st).explains;
  rounds = (judge_in st).rounds;
  decided = (judge_in st).decided;
  queries = 1;
  value = λ q s. value_of (settled_with (case_said st) (clause_table st) (additions_of (causes_said st) s)) g;
}

-- over the minimal settings
abbrev pub verdict_on : Said → Formula → Verdict
verdict_on st g = verdict_of (judge_on st g) 0 (minimals_of st)

-- the verdicts of an accepted file are those on the formulas of its query lines, in file order
abbrev pub VerdictsOnQueries : Type 0
VerdictsOnQueries = (f : List ℕ) (st : Said) → read_file f ≡ Outcome.case st
    → verdicts_in st ≡ map (verdict_on st) (file_content f).queries

-- the report of an accepted file with one query line, whose formula is g: one verdict, the rounds, the decided atoms,
-- how many minimal settings there are and are listed, the listed ones, and the lowest cost, if there are any
abbrev pub OneQuery : Type 0
OneQuery = (f : List ℕ) (st : Said) (g : Formula) → length f ≤ 32768 → read_file f ≡ Outcome.case st
    → (file_content f).queries ≡ (g ∷ [])
    → let l = minimals_of st in let listed = take list_length l in
    report_text f ≡ verdict_line (verdict_number (verdict_on st g))
    ++ (rounds_line (rounds_of st)
    ++ (decided_line (decided_of st)
    ++ (minimal_line (length l) (length listed)
    ++ (cause_lines (name_of st) (causes_said st) listed ++ cheapest_lines (length l) (lowest_of st)))))
