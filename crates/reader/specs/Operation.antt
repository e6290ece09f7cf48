-- What the operation *read* answers and leaves in the lent tables, on every input.
-- From: document 01, "What each operation refuses" (Reading), "The file" ("Reading fills unused entries with zeros");
-- document 02, [7] (the table of prices).
--
--   tables_fit t        the five tables are as long as their sizes
--   early_refusal f t   1 a lent table too short, 2 the file too long, 0 otherwise
--   table_left ..       a table at exit: untouched by 1 and 2, otherwise filled in its first n entries
--   ReadAs f t u r      the answer r and the tables u at exit, for the file f and the tables t at entry
use Rattle.std.specs.Prelude.{◌≡◌, Bool, ◌&&◌, List, [], ◌∷◌, ℕ, leb, length, Result}
use Rattle.words.specs.Choice.{unless_refused, check, first_failed}
use Rattle.program.specs.declared.case.Case.{Case}
use Rattle.program.specs.Case.{clause_size, constraint_size, formula_size, name_size, price_size, tables_full}
use Rattle.table.specs.Filled.{filled}
use Rattle.names.specs.Names.{rows_of}
use Rattle.store.specs.Lent.{Lent}
use Rattle.store.specs.Prices.{prices_of}
use Rattle.store.specs.Tables.{clause_words, constraint_words, formula_parts, case_said, no_case}
use Rattle.reader.specs.declared.read.Refused.{Refused}
use Rattle.reader.specs.Reading.{said_in, refusal_of, line_of_refusal, read_file}
use Rattle.reader.specs.Answers.{refusal_in, line_in, case_in}

unfoldable pub tables_fit : Lent → Bool
tables_fit t =
    tables_full t.clauses t.constraints t.formula && leb name_size (length t.names)
    && leb price_size (length t.prices)

unfoldable pub early_refusal : List ℕ → Lent → ℕ
early_refusal f t = first_failed (check 1 (tables_fit t) ∷ check 2 (leb (length f) 32768) ∷ [])

abbrev pub table_left : List ℕ → Lent → ℕ → List ℕ → List ℕ → List ℕ
table_left f t n l old = unless_refused (early_refusal f t) (filled n l old) old

pub record ReadAs (f : List ℕ) (t u : Lent) (r : Result Case Refused) : Type 0 where
  pub refusal_is : refusal_in r ≡ unless_refused (early_refusal f t) (refusal_of (read_file f)) (early_refusal f t)
  pub line-is : line_in r ≡ unless_refused (early_refusal f t) (line_of_refusal (read_file f)) 0
  pub case-is : case_in r ≡ unless_refused (refusal_in r) (case_said (said_in (read_file f))) no_case
  pub clauses_are : u.clauses ≡ table_left f t clause_size (clause_words (said_in (read_file f)).clauses) t.clauses
  pub constraints_are : u.constraints
      ≡ table_left f t constraint_size (constraint_words (said_in (read_file f)).constraints) t.constraints
  pub formula-is : u.formula ≡ table_left f t formula_size (formula_parts (said_in (read_file f)).queries) t.formula
  pub names_are : u.names ≡ table_left f t name_size (rows_of (said_in (read_file f)).names) t.names
  pub prices_are : u.prices ≡ table_left f t price_size (prices_of (said_in (read_file f)).costs) t.prices
