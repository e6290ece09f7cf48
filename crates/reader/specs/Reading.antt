-- Reading a whole file: the first bad line decides, then 11 and 12.
-- From: document 01, "What each operation refuses" (Reading); document 02, [10] ("The limit in 12 and 13 becomes a
-- product of at most 59,049 settings").
--
--   Outcome           what a file says, or the number of a refusal and its line
--   said_in o         what an outcome says; refusal_of and line_of_refusal its number and line
--   settings_few st   there are at most 59,049 settings by what was read, in the edition that it says
--   end_checks st     the checks after the last line; end_refusal st the number of the first that fails, or 0
--   ending st         what they leave
--   read_file f       the outcome of the file f
use Rattle.std.specs.Prelude.{Bool, List, [], ◌∷◌, ℕ, zero, suc, leb, length}
use Rattle.words.specs.Choice.{Check, check, first_failed}
use Rattle.program.specs.Sound.{few_settings}
use Rattle.text.specs.Lines.{lines}
use Rattle.store.specs.Saying.{Said, nothing_said, edition_of}
use Rattle.store.specs.Tables.{clause_words}
use Rattle.checks.specs.Checks.{line_refusal, said_after}

pub data Outcome : Type 0 where
  case : Said → Outcome
  refused : ℕ → ℕ → Outcome

-- what an outcome says, nothing where it is refused
abbrev pub said_in : Outcome → Said
said_in (Outcome.case st) = st
said_in (Outcome.refused n k) = nothing_said

-- the number and the line of an outcome's refusal, zeros where it is a case
abbrev pub refusal_of : Outcome → ℕ
refusal_of (Outcome.case st) = 0
refusal_of (Outcome.refused n k) = n

abbrev pub line_of_refusal : Outcome → ℕ
line_of_refusal (Outcome.case st) = 0
line_of_refusal (Outcome.refused n k) = k

-- refused with the number of a failed check at line k, or what comes after where the number is 0
abbrev pub or_else : ℕ → ℕ → Outcome → Outcome
or_else zero k o = o
or_else (suc n) k o = Outcome.refused (suc n) k

abbrev pub settings_few : Said → Bool
settings_few st =
    few_settings (edition_of st.editions) (length st.names) (clause_words st.clauses) (length st.clauses)

-- after the last line: 11 no query, 12 more than 59,049 settings
abbrev pub end_checks : Said → List Check
end_checks st = check 11 (leb 1 (length st.queries)) ∷ check 12 (settings_few st) ∷ []

abbrev pub end_refusal : Said → ℕ
end_refusal st = first_failed (end_checks st)

unfoldable pub ending : Said → Outcome
ending st = or_else (end_refusal st) 0 (Outcome.case st)

-- the lines from line k on, behind st
unfoldable pub read_lines : List (List ℕ) → Said → ℕ → Outcome
read_lines [] st k = ending st
read_lines (l ∷ ls) st k = or_else (line_refusal st l) k (read_lines ls (said_after st l) (suc k))

unfoldable pub read_file : List ℕ → Outcome
read_file f = read_lines (lines f) nothing_said 1
