-- What is claimed of tidied files beyond the contract of *tidy*. Proved in proofs/Theorems.antt.
-- From: document 02, [8].
--
--   TidyFits       how long a text can be
--   TidyCut        a file that is too long, cut behind the limit
--   TidyRefusals   which refusals of writing an accepted file can meet
use Rattle.std.specs.Prelude.{◌≡◌, List, ◌⊎◌, ℕ, ◌≤◌, ◌<◌, length, take}
use Rattle.store.specs.Saying.{Said}
use Rattle.store.specs.Tables.{case_said}
use Rattle.reader.specs.Reading.{Outcome, read_file}
use Rattle.writing.specs.Operation.{write_refusal}
use Rattle.tidying.specs.Text.{tables_said, longest_text, tidy_text}

-- an output of that many bytes is long enough for the text of any file
abbrev pub TidyFits : Type 0
TidyFits = (f : List ℕ) → length (tidy_text f) ≤ longest_text

-- the first k bytes of a file give its text, where k is over the limit of 32,768
abbrev pub TidyCut : Type 0
TidyCut = (f : List ℕ) (k : ℕ) → 32768 < k → tidy_text (take k f) ≡ tidy_text f

-- writing back the case of an accepted file is refused with 18 or not at all
abbrev pub TidyRefusals : Type 0
TidyRefusals = (f : List ℕ) (st : Said) → read_file f ≡ Outcome.case st
    → let n = write_refusal (case_said st) (tables_said st) longest_text in (n ≡ 0) ⊎ (n ≡ 18)
