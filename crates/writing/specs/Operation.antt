-- What the operation *write* answers and leaves in the lent output, on every input.
-- From: document 02, [8]; document 01, "What each operation refuses" ("For operations and tables that come later").
--
--   is_name_row t a       row a of the names table t is a name and zeros behind it
--   is_repeated t a       a row before row a of the names table t is the same
--   writable c t          the case c with the tables t is sound, its names are names and differ, its prices are at most
--                         2,000,000
--   case_lines c t        the lines of the case, without their LFs; case_text c t its text
--   write_refusal c t n   0, or 1 a lent table too short, 13 the case isn't writable, 18 a line of its text over 200
--                         bytes or the text over 32,768, 19 the output, n bytes long, shorter than the text
--   WrittenAs ..          the answer and the output at exit
use Rattle.std.specs.Prelude.{Bool, not, ◌&&◌, List, [], ◌∷◌, map, ℕ, Result, leb, length, get_or}
use Rattle.refusals.specs.declared.Refusal.{Refusal}
use Rattle.words.specs.Below.{any, every}
use Rattle.words.specs.Choice.{check, first_failed}
use Rattle.program.specs.declared.case.Case.{Case}
use Rattle.program.specs.Sound.{sound}
use Rattle.text.specs.Bytes.{same_bytes}
use Rattle.text.specs.Spelled.{text_of}
use Rattle.table.specs.Filled.{padded}
use Rattle.names.specs.Row.{row_at, name_in}
use Rattle.store.specs.Lent.{Lent}
use Rattle.checks.specs.Naming.{is_name}
use Rattle.reader.specs.Operation.{tables_fit}
use Rattle.output.specs.Showing.{Shown}
use Rattle.spelling.specs.Page.{some_long_line}
use Rattle.writing.specs.Lines.{lines_of, line_text}
use Rattle.writing.specs.Used.{said_of}

unfoldable pub is_name_row : List ℕ → ℕ → Bool
is_name_row t a = is_name (name_in t a) && same_bytes (row_at t a) (padded 16 (name_in t a))

unfoldable pub is_repeated : List ℕ → ℕ → Bool
is_repeated t a = any a (λ b. same_bytes (row_at t b) (row_at t a))

-- atom a has a name of its own in the names na, and in the prices pr a price of at most 2,000,000
unfoldable pub is_writable_atom : List ℕ → List ℕ → ℕ → Bool
is_writable_atom na pr a = is_name_row na a && not (is_repeated na a) && leb (get_or pr a 0) 2000000

unfoldable pub writable : Case → Lent → Bool
writable c t =
    sound c t.clauses t.constraints t.formula && every c.atoms (is_writable_atom t.names t.prices)

abbrev pub case_lines : Case → Lent → List (List ℕ)
case_lines c t = map line_text (lines_of (name_in t.names) (said_of c t))

abbrev pub case_text : Case → Lent → List ℕ
case_text c t = text_of (case_lines c t)

unfoldable pub write_refusal : Case → Lent → ℕ → ℕ
write_refusal c t n =
    first_failed
    (check 1 (tables_fit t)
    ∷ check 13 (writable c t)
    ∷ check 18 (not (some_long_line (case_lines c t)) && leb (length (case_text c t)) 32768)
    ∷ check 19 (leb (length (case_text c t)) n)
    ∷ [])

-- the output at entry and at exit
abbrev pub WrittenAs : Case → Lent → List ℕ → Result ℕ Refusal → List ℕ → Type 0
WrittenAs c t out r outAfter = Shown (write_refusal c t (length out)) (case_text c t) out r outAfter
