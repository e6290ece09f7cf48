-- The lines of a case, as the trees that reading has.
-- From: document 02, [8] ("It starts with one line `(atom N)` for each atom .. Then come clauses, constraints,
-- observations, queries and costs, in table order, plain literals before negated ones, each in atom order"; "Only a
-- price above 0 is written, with supplement 0"), [10] ("A case of edition 2 is written with that line after its `atom`
-- lines").
--
--   literals_on name b l    the literals on the atoms l, negated where b holds; name gives the name of each atom
--   literals_for name p q   the plain literals on the atoms of the word p, then the negated ones on those of q
--   decoded name f          the formula f with the atoms' names
--   clause_line, ..         the line of a clause, a constraint, a query or a cost
--   lines_of name st        the lines of what st says
--   line_text x             the text of the line x, without its LF
use Rattle.std.specs.Prelude.{Bool, true, false, List, [], ◌++◌, map, ℕ}
use Rattle.logic.specs.Formula.{Formula}
use Rattle.program.specs.Cause.{atoms_in}
use Rattle.text.specs.Spelled.{spelled}
use Rattle.formulas.specs.Sentence.{Sentence}
use Rattle.grammar.specs.Line.{Line, Literal, line_tokens}
use Rattle.store.specs.Prices.{CostRow}
use Rattle.store.specs.Saying.{Said, ClauseRow, ConstraintRow}
use Rattle.output.specs.Decimal.{decimal}

abbrev pub literals_on : (ℕ → List ℕ) → Bool → List ℕ → List Literal
literals_on name b l = map (λ a. Literal.literal b (name a)) l

abbrev pub literals_for : (ℕ → List ℕ) → ℕ → ℕ → List Literal
literals_for name p q = literals_on name false (atoms_in p) ++ literals_on name true (atoms_in q)

-- the constants stand in no query
unfoldable pub decoded : (ℕ → List ℕ) → Formula → Sentence
decoded name Formula.truth = Sentence.name []
decoded name Formula.falsity = Sentence.name []
decoded name (Formula.atom a) = Sentence.name (name a)
decoded name (Formula.negation f) = Sentence.negation (decoded name f)
decoded name (Formula.conjunction f g) = Sentence.joined 65 (decoded name f) (decoded name g)
decoded name (Formula.disjunction f g) = Sentence.joined 66 (decoded name f) (decoded name g)
decoded name (Formula.implication f g) = Sentence.joined 67 (decoded name f) (decoded name g)
decoded name (Formula.equivalence f g) = Sentence.joined 68 (decoded name f) (decoded name g)

abbrev pub clause_line : (ℕ → List ℕ) → ClauseRow → Line
clause_line name c = Line.clause c.kind (name c.head) (literals_for name c.plain c.negated)

abbrev pub constraint_line : (ℕ → List ℕ) → ConstraintRow → Line
constraint_line name c = Line.constraint c.kind (literals_for name c.plain c.negated)

abbrev pub query_line : (ℕ → List ℕ) → Formula → Line
query_line name f = Line.query (decoded name f)

-- the supplement is 0
abbrev pub cost_line : (ℕ → List ℕ) → CostRow → Line
cost_line name r = Line.cost (name r.atom) (decimal r.price) (decimal 0)

abbrev pub lines_of : (ℕ → List ℕ) → Said → List Line
lines_of name st =
    map Line.atom st.names
    ++ (map Line.edition st.editions
    ++ (map (clause_line name) st.clauses
    ++ (map (constraint_line name) st.constraints
    ++ (map Line.seen (literals_for name st.plain st.negated)
    ++ (map (query_line name) st.queries ++ map (cost_line name) st.costs)))))

abbrev pub line_text : Line → List ℕ
line_text x = spelled (line_tokens x)
