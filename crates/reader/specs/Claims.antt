-- What is claimed of reading beyond the contract of *read*. Proved in proofs/Theorems.antt.
-- From: document 01, "What each operation refuses" (Reading), "Case tables and sound cases"; document 02, [7] ("the
-- supplement rounded to the nearest cent, half a cent upwards"), [9] ("Make 11 the limit"), [10] ("21 when a second
-- edition line comes").
--
--   AcceptedSound, TablesSay, AcceptedNames     an accepted file's record and tables
--   ReadExact, FirstBadLine, NoBadLine          which line decides
--   OneEdition                                  how many edition lines an accepted file has
--   ElevenRead                                  how many literals a body of an accepted file has
--   NodesFit                                    why there is no refusal for too many nodes
--   SupplementNearest                           how a supplement is rounded
use Rattle.std.specs.Prelude.{◌≡◌, Bool, true, false, ◌&&◌, List, [], ◌∷◌, ℕ, suc, ◌+◌, ◌*◌}
use Rattle.std.specs.Prelude.{◌≤◌, ◌<◌, eqb, length, get_or, take, Result}
use Rattle.logic.specs.Nodes.{nodes}
use Rattle.program.specs.declared.case.Case.{Case}
use Rattle.program.specs.Case.{clause_size, constraint_size, formula_size}
use Rattle.program.specs.Sound.{sound}
use Rattle.text.specs.Lines.{lines, is_comment}
use Rattle.text.specs.Tokens.{tokens}
use Rattle.table.specs.Filled.{filled}
use Rattle.formulas.specs.Sentence.{Sentence}
use Rattle.grammar.specs.Line.{Line}
use Rattle.grammar.specs.Bringing.{brings}
use Rattle.grammar.specs.LineOf.{line_of}
use Rattle.names.specs.Names.{atom_of}
use Rattle.store.specs.Lent.{Lent}
use Rattle.store.specs.Prices.{supplement}
use Rattle.store.specs.Saying.{Said, nothing_said, encoded}
use Rattle.store.specs.Tables.{clause_words, case_said, constraint_words, formula_parts}
use Rattle.checks.specs.Checks.{line_refusal, said_after}
use Rattle.checks.specs.Naming.{IsName}
use Rattle.reader.specs.Reading.{Outcome, ending, read_file}
use Rattle.reader.specs.Contents.{Says}
use Rattle.reader.specs.declared.read.Refused.{Refused}
use Rattle.reader.specs.Answers.{refusal_in, case_in}
use Rattle.reader.specs.Operation.{tables_fit, ReadAs}

-- an accepted file's case is sound, with tables filled over any tables of full size
abbrev pub AcceptedSound : Type 0
AcceptedSound = (f : List ℕ) (st : Said) (t : Lent) → tables_fit t ≡ true → read_file f ≡ Outcome.case st
    → sound (case_said st)
    (filled clause_size (clause_words st.clauses) t.clauses)
    (filled constraint_size (constraint_words st.constraints) t.constraints)
    (filled formula_size (formula_parts st.queries) t.formula) ≡ true

-- where reading accepts the file f, the record and the tables that it leaves say what f says
abbrev pub TablesSay : Type 0
TablesSay = (f : List ℕ) (t u : Lent) (r : Result Case Refused) → ReadAs f t u r → refusal_in r ≡ 0
    → Says f (case_in r) u

-- an accepted file's names are names and differ: each is found at its own place
pub record NamesRight (st : Said) : Type 0 where
  pub are_names : (a : ℕ) → a < length st.names → IsName (get_or st.names a [])
  pub differ : (a : ℕ) → a < length st.names → atom_of st.names (get_or st.names a []) ≡ a

abbrev pub AcceptedNames : Type 0
AcceptedNames = (f : List ℕ) (st : Said) → read_file f ≡ Outcome.case st → NamesRight st

-- what was read after some lines, none of which is refused
unfoldable pub said_through : List (List ℕ) → Said → Said
said_through [] st = st
said_through (l ∷ ls) st = said_through ls (said_after st l)

unfoldable pub all_pass : List (List ℕ) → Said → Bool
all_pass [] st = true
all_pass (l ∷ ls) st = eqb (line_refusal st l) 0 && all_pass ls (said_after st l)

-- of the lines ls, behind st, the first k pass and the next is refused with n
pub record BadAt (ls : List (List ℕ)) (st : Said) (n k : ℕ) : Type 0 where
  pub there : k < length ls
  pub before-pass : all_pass (take k ls) st ≡ true
  pub refused-with : line_refusal (said_through (take k ls) st) (get_or ls k []) ≡ n
  pub not-zero : n ≡ 0 → ⊥

-- the first k lines of the file f pass, and the next is refused with n
abbrev pub FirstBad : List ℕ → ℕ → ℕ → Type 0
FirstBad f n k = BadAt (lines f) nothing_said n k

-- where all lines pass, the end decides over what they say; otherwise the first bad line, counted from 1, does
pub record ReadExact : Type 0 where
  pub all_pass : (f : List ℕ) → all_pass (lines f) nothing_said ≡ true
      → read_file f ≡ ending (said_through (lines f) nothing_said)
  pub one_bad : (f : List ℕ) (n k : ℕ) → FirstBad f n k → read_file f ≡ Outcome.refused n (suc k)

-- a refusal with a line has the number and the line, counted from 1, of the first bad line
abbrev pub FirstBadLine : Type 0
FirstBadLine = (f : List ℕ) (n k : ℕ) → read_file f ≡ Outcome.refused n (suc k) → FirstBad f n k

-- a refusal with line 0 comes after all lines passed
abbrev pub NoBadLine : Type 0
NoBadLine = (f : List ℕ) (n : ℕ) → read_file f ≡ Outcome.refused n 0 → all_pass (lines f) nothing_said ≡ true

-- an accepted file says at most one edition
abbrev pub OneEdition : Type 0
OneEdition = (f : List ℕ) (st : Said) → read_file f ≡ Outcome.case st → length st.editions ≤ 1

-- no line of an accepted file, comments aside, has more than 11 literals in its body, as written
abbrev pub ElevenRead : Type 0
ElevenRead = (f : List ℕ) (st : Said) (k : ℕ) → read_file f ≡ Outcome.case st → k < length (lines f)
    → is_comment (get_or (lines f) k []) ≡ false → (brings (line_of (tokens (get_or (lines f) k [])))).literals ≤ 11

-- the nodes of a query always fit: a line of 200 bytes has at most 128
abbrev pub NodesFit : Type 0
NodesFit = (l : List ℕ) (f : Sentence) (ns : List (List ℕ)) → length l ≤ 200 → line_of (tokens l) ≡ Line.query f
    → length (nodes (encoded ns f)) ≤ 128

-- a supplement is the nearest number of cents to s hundredths of p, half a cent upwards: it is at most half a cent over
-- them, and less than half a cent under them
abbrev pub SupplementNearest : Type 0
SupplementNearest = (p s : ℕ)
    → (100 * supplement p s ≤ p * s + 50) × (p * s < 100 * supplement p s + 50)
