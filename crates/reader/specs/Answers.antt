-- The answers of reading.
-- From: document 01, "What each operation refuses" (Reading).
--
--   of_no_line r     the refusal r of no line
--   refusal_in r     the number of the refusal of the answer r, 0 where it is a record
--   line_in r        its line, 0 where it is a record
--   case_in r        the record of the answer r, zeros where it is refused
--   AnswerIs o r     the answer r is that for the outcome o
use Rattle.std.specs.Prelude.{◌≡◌, ℕ, Result, Ok, Err, IfOk}
use Rattle.refusals.specs.declared.Refusal.{Refusal}
use Rattle.refusals.specs.Refusal.{number_of}
use Rattle.program.specs.declared.case.Case.{Case}
use Rattle.store.specs.Tables.{case_said, no_case}
use Rattle.reader.specs.declared.read.Refused.{Refused}
use Rattle.reader.specs.Reading.{Outcome, said_in, refusal_of, line_of_refusal}

abbrev pub of_no_line : Refusal → Refused
of_no_line r = record { refusal = r; line = 0 }

abbrev pub refusal_in : Result Case Refused → ℕ
refusal_in (Ok c) = 0
refusal_in (Err e) = number_of e.refusal

abbrev pub line_in : Result Case Refused → ℕ
line_in (Ok c) = 0
line_in (Err e) = e.line

abbrev pub case_in : Result Case Refused → Case
case_in (Ok c) = c
case_in (Err e) = no_case

pub record AnswerIs (o : Outcome) (r : Result Case Refused) : Type 0 where
  pub refusal_is : refusal_in r ≡ refusal_of o
  pub line-is : line_in r ≡ line_of_refusal o
  pub case-is : IfOk r (λ c. c ≡ case_said (said_in o))
