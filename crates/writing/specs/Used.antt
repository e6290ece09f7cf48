-- What a record and its tables say in their used entries.
-- From: document 02, [8] ("the same record and tables, both in their used entries"; "Only a price above 0 is written");
-- document 01, "Case tables and sound cases"; document 02, [10] ("A case of edition 2 is written with that line").
--
--   clause_in cl k       clause k of the table cl
--   constraint_in co k   constraint k of the table co
--   formula_in c fo q    formula q of the case c
--   costs_in pr n        the prices above 0 of the first n atoms, in atom order
--   editions_in e        the edition lines of a case of edition e: one of edition 2, none of any other
--   said_of c t          what the case c with the tables t says
use Rattle.std.specs.Prelude.{List, [], ◌++◌, ℕ, zero, suc, eqb, ltb, get_or}
use Rattle.words.specs.Choice.{cons_if}
use Rattle.words.specs.Lists.{list_of}
use Rattle.logic.specs.Formula.{Formula}
use Rattle.logic.specs.Nodes.{formula_of}
use Rattle.program.specs.declared.case.Case.{Case}
use Rattle.program.specs.Case.{head_at, kind_at, plain_at, negated_at, forbidden, forbidden_not, constraint_kind}
use Rattle.program.specs.Case.{nodes_of}
use Rattle.names.specs.Row.{name_in}
use Rattle.store.specs.Lent.{Lent}
use Rattle.store.specs.Prices.{CostRow}
use Rattle.store.specs.Saying.{Said, ClauseRow, ConstraintRow, said}

abbrev pub clause_in : List ℕ → ℕ → ClauseRow
clause_in cl k = record { head = head_at cl k; kind = kind_at cl k; plain = plain_at cl k; negated = negated_at cl k }

abbrev pub constraint_in : List ℕ → ℕ → ConstraintRow
constraint_in co k = record { plain = forbidden co k; negated = forbidden_not co k; kind = constraint_kind co k }

abbrev pub formula_in : Case → List ℕ → ℕ → Formula
formula_in c fo q = formula_of (nodes_of c.nodes fo q)

-- atom a and its price
abbrev pub cost_of : List ℕ → ℕ → CostRow
cost_of pr a = record { atom = a; price = get_or pr a 0 }

unfoldable pub costs_in : List ℕ → ℕ → List CostRow
costs_in pr zero = []
costs_in pr (suc a) = costs_in pr a ++ cons_if (ltb 0 (get_or pr a 0)) (cost_of pr a) []

abbrev pub editions_in : ℕ → List ℕ
editions_in e = cons_if (eqb e 2) 2 []

abbrev pub said_of : Case → Lent → Said
said_of c t =
    said (list_of c.atoms (name_in t.names))
    (list_of c.clauses (clause_in t.clauses))
    (list_of c.constraints (constraint_in t.constraints))
    c.plain c.negated
    (list_of c.formulas (formula_in c t.formula))
    (costs_in t.prices c.atoms)
    (editions_in c.edition)
