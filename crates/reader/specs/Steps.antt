-- What the code's steps of reading answer and leave.
--
--   end_refusal_in c cl   the checks 11 and 12 of a record and its clause table
--   Countable c cl        what counting the settings of a record takes
--   Zeroed t u            the tables u are t with zeros in their sizes
--   Ready f t             the file f is not too long, and the tables t have their full sizes and hold nothing
--   FileTaken f t u r     what reading a file into tables that hold nothing answers and leaves
--   LinesRead f t u r     what reading a file into tables of full size answers and leaves
use Rattle.std.specs.Prelude.{◌≡◌, List, [], ◌∷◌, ℕ, ◌≤◌, leb, length, Result, OnOk}
use Rattle.words.specs.Choice.{check, first_failed}
use Rattle.program.specs.declared.case.Case.{Case}
use Rattle.program.specs.Case.{clause_size}
use Rattle.program.specs.Sound.{few_settings}
use Rattle.store.specs.Lent.{Lent, filled_with}
use Rattle.store.specs.Saying.{nothing_said}
use Rattle.store.specs.Tables.{words_of, case_said}
use Rattle.store.specs.Held.{Long, InLimits, Held, Kept}
use Rattle.reader.specs.declared.read.Refused.{Refused}
use Rattle.reader.specs.Reading.{said_in, read_file}
use Rattle.reader.specs.Answers.{AnswerIs}

abbrev pub end_refusal_in : Case → List ℕ → ℕ
end_refusal_in c cl =
    first_failed
    (check 11 (leb 1 c.formulas) ∷ check 12 (few_settings c.edition c.atoms cl c.clauses) ∷ [])

-- a record with a query has an atom
pub record Countable (c : Case) (cl : List ℕ) : Type 0 where
  pub limits : InLimits c
  pub atoms-some : (c.formulas ≡ 0 → ⊥) → 1 ≤ c.atoms
  pub clauses-long : clause_size ≤ length cl

pub record Zeroed (t u : Lent) : Type 0 where
  pub tables_are : u ≡ filled_with (words_of nothing_said) t

pub record Ready (f : List ℕ) (t : Lent) : Type 0 where
  pub short : length f ≤ 32768
  pub long : Long t
  pub held : Held nothing_said (case_said nothing_said) t

-- the tables hold what the file says, where it is not refused
pub record FileTaken (f : List ℕ) (t u : Lent) (r : Result Case Refused) : Type 0 where
  pub answer-is : AnswerIs (read_file f) r
  pub kept : Kept t u
  pub tables_are : OnOk r (u ≡ filled_with (words_of (said_in (read_file f))) u)

pub record LinesRead (f : List ℕ) (t u : Lent) (r : Result Case Refused) : Type 0 where
  pub answer-is : AnswerIs (read_file f) r
  pub tables_are : u ≡ filled_with (words_of (said_in (read_file f))) t
