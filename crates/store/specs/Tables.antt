-- The record and the words of the tables that hold what was read.
-- From: document 01, "Case tables and sound cases"; document 02, [5] (a third word for each constraint), [7]
-- (the table of prices), [10] ("the case record holds the edition").
--
--   clause_words cs       the words of clauses: three each
--   constraint_words cs   the words of constraints: three each
--   formula_parts fs      the parts of formulas: 128 bytes each, its nodes and zeros behind them
--   node_counts fs        how many nodes each formula has
--   words_of st           the five tables' words for what was read
--   case_with ..          a record by its parts; case_said st the record of what was read, no_case that of zeros
use Rattle.std.specs.Prelude.{List, [], ◌∷◌, ◌++◌, map, ℕ, ◌+◌, ◌*◌, length, replicate}
use Rattle.logic.specs.Formula.{Formula}
use Rattle.logic.specs.Nodes.{nodes}
use Rattle.program.specs.declared.case.Case.{Case}
use Rattle.program.specs.Case.{part_size}
use Rattle.table.specs.Filled.{padded}
use Rattle.names.specs.Names.{rows_of}
use Rattle.store.specs.Lent.{Lent, lent}
use Rattle.store.specs.Prices.{prices_of}
use Rattle.store.specs.Saying.{Said, ClauseRow, ConstraintRow, edition_of}

-- three words a clause
unfoldable pub clause_words : List ClauseRow → List ℕ
clause_words [] = []
clause_words (c ∷ cs) = (c.head + 64 * c.kind) ∷ (c.plain ∷ (c.negated ∷ clause_words cs))

-- three words a constraint
unfoldable pub constraint_words : List ConstraintRow → List ℕ
constraint_words [] = []
constraint_words (c ∷ cs) = c.plain ∷ (c.negated ∷ (c.kind ∷ constraint_words cs))

-- a part a formula
unfoldable pub formula_parts : List Formula → List ℕ
formula_parts [] = []
formula_parts (f ∷ fs) = padded part_size (nodes f) ++ formula_parts fs

abbrev pub node_counts : List Formula → List ℕ
node_counts fs = map (λ f. length (nodes f)) fs

abbrev pub words_of : Said → Lent
words_of st =
    lent (clause_words st.clauses) (constraint_words st.constraints) (formula_parts st.queries)
    (rows_of st.names) (prices_of st.costs)

-- a record by its parts
abbrev pub case_with : ℕ → ℕ → ℕ → ℕ → ℕ → ℕ → List ℕ → ℕ → Case
case_with a c d m p q ns e = record {
  atoms = a;
  clauses = c;
  constraints = d;
  formulas = m;
  plain = p;
  negated = q;
  nodes = ns;
  edition = e;
}

abbrev pub case_said : Said → Case
case_said st =
    case_with (length st.names) (length st.clauses) (length st.constraints) (length st.queries) st.plain
    st.negated (padded 16 (node_counts st.queries)) (edition_of st.editions)

abbrev pub no_case : Case
no_case = case_with 0 0 0 0 0 0 (replicate 16 0) 0
