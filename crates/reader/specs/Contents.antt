-- What a case file says, from its lines to clauses, constraints, observed literals, queries, costs, editions and names;
-- and what it is for a record and tables to say the same.
-- From: document 01, "The file", "Interpretations and the step" and "Case tables and sound cases"; document 02, [5]
-- (constraints of two kinds), [7] (costs), [8] (an atom line "only names an atom"), [10] ("the case record holds the
-- edition").
--
--   form_of l             the form of the line l; a comment says nothing
--   names_of l            the names of the line l in order; a comment has none
--   file_names f          the names of the file f in the order of first appearance: the a-th is the name of atom a
--   body_of ns ls         the body with the literals ls, by the names ns
--   Constraint            a constraint by its kind (0 never, 1 avoid) and its body
--   Content               clauses, constraints, observed literals, queries, costs and editions, in file order
--   content_of ns x       what the form x says, by the names ns
--   file_content f        what the lines of the file f say, by its names
--   constraints_of co n   the first n constraints of a table
--   Says f c t            the record c and the tables t say what the file f says
use Rattle.std.specs.Prelude.{◌≡◌, List, [], ◌∷◌, ◌++◌, ℕ, zero, suc, ◌+◌, ◌*◌, ◌<◌, length, get_or}
use Rattle.std.proofs.Math.Seq.{slice}
use Rattle.words.specs.Choice.{pick}
use Rattle.words.specs.Lists.{list_of}
use Rattle.logic.specs.Formula.{Formula, body}
use Rattle.logic.specs.Nodes.{formula_of}
use Rattle.program.specs.declared.case.Case.{Case}
use Rattle.program.specs.Case.{forbidden, forbidden_not, constraint_kind, nodes_of, price_size}
use Rattle.program.specs.Program.{Clause, clause, by_kind, clauses_of}
use Rattle.text.specs.Lines.{lines, is_comment}
use Rattle.text.specs.Tokens.{tokens}
use Rattle.table.specs.Filled.{padded}
use Rattle.grammar.specs.Line.{Line, Literal}
use Rattle.grammar.specs.LineOf.{line_of}
use Rattle.text.specs.Words.{names_in}
use Rattle.names.specs.Names.{atom_of, with_names}
use Rattle.store.specs.Lent.{Lent}
use Rattle.store.specs.Prices.{CostRow, price_in}
use Rattle.store.specs.Saying.{plain_atoms, negated_atoms, encoded, cost_row, edition_of}

unfoldable pub form_of : List ℕ → Line
form_of l = pick (is_comment l) Line.skipped (line_of (tokens l))

unfoldable pub names_of : List ℕ → List (List ℕ)
names_of l = pick (is_comment l) [] (names_in (tokens l))

-- the names of lines, one line after the other
unfoldable pub names_through : List (List ℕ) → List (List ℕ)
names_through [] = []
names_through (l ∷ ls) = names_of l ++ names_through ls

abbrev pub file_names : List ℕ → List (List ℕ)
file_names f = with_names [] (names_through (lines f))

abbrev pub body_of : List (List ℕ) → List Literal → Formula
body_of ns ls = body (plain_atoms ns ls) (negated_atoms ns ls)

pub record Constraint : Type 0 where
  pub kind : ℕ
  pub body : Formula

-- a constraint by its parts
abbrev pub constraint : ℕ → Formula → Constraint
constraint k f = record { kind = k; body = f }

pub record Content : Type 0 where
  pub clauses : List Clause
  pub constraints : List Constraint
  pub observed : List Literal
  pub queries : List Formula
  pub costs : List CostRow
  pub editions : List ℕ

-- a content by its parts
abbrev pub content : List Clause → List Constraint → List Literal → List Formula → List CostRow → List ℕ → Content
content cs ds ls fs ks es =
    record { clauses = cs; constraints = ds; observed = ls; queries = fs; costs = ks; editions = es }

abbrev pub no_content : Content
no_content = content [] [] [] [] [] []

-- what x says, and behind it what y says
abbrev pub and_then : Content → Content → Content
and_then x y =
    content (x.clauses ++ y.clauses) (x.constraints ++ y.constraints) (x.observed ++ y.observed)
    (x.queries ++ y.queries) (x.costs ++ y.costs) (x.editions ++ y.editions)

-- a clause has its head's atom, and the body true (a fact), false (an assumption) or of its literals (a rule)
unfoldable pub content_of : List (List ℕ) → Line → Content
content_of ns Line.skipped = no_content
content_of ns Line.no_form = no_content
content_of ns (Line.clause k w l) = content (clause (atom_of ns w) (by_kind k (body_of ns l)) ∷ []) [] [] [] [] []
content_of ns (Line.constraint k l) = content [] (constraint k (body_of ns l) ∷ []) [] [] [] []
content_of ns (Line.seen x) = content [] [] (x ∷ []) [] [] []
content_of ns (Line.query f) = content [] [] [] (encoded ns f ∷ []) [] []
content_of ns (Line.cost w p s) = content [] [] [] [] (cost_row ns w p s ∷ []) []
content_of ns (Line.atom w) = no_content
content_of ns (Line.edition e) = content [] [] [] [] [] (e ∷ [])

-- what lines say, one after the other
unfoldable pub contents : List (List ℕ) → List (List ℕ) → Content
contents ns [] = no_content
contents ns (l ∷ ls) = and_then (content_of ns (form_of l)) (contents ns ls)

abbrev pub file_content : List ℕ → Content
file_content f = contents (file_names f) (lines f)

-- constraint k of a table
abbrev pub constraint_at : List ℕ → ℕ → Constraint
constraint_at co k = constraint (constraint_kind co k) (body (forbidden co k) (forbidden_not co k))

unfoldable pub constraints_of : List ℕ → ℕ → List Constraint
constraints_of co zero = []
constraints_of co (suc k) = constraints_of co k ++ (constraint_at co k ∷ [])

-- row a of the names is the a-th name and zeros; clauses_of is the program that settling takes from the table; the two
-- observed words have the atoms of the plain and of the negated observed literals; part q of the formula table has the
-- nodes of query q; entry a of the prices is the price of atom a, 0 where it has no cost; the edition is that of the
-- last edition line, 1 without one
pub record Says (f : List ℕ) (c : Case) (t : Lent) : Type 0 where
  pub atoms_are : c.atoms ≡ length (file_names f)
  pub names_are : (a : ℕ) → a < c.atoms
      → slice (a * 16) (a * 16 + 16) t.names ≡ padded 16 (get_or (file_names f) a [])
  pub clauses_are : clauses_of t.clauses c.clauses ≡ (file_content f).clauses
  pub constraints_are : constraints_of t.constraints c.constraints ≡ (file_content f).constraints
  pub plain_are : c.plain ≡ plain_atoms (file_names f) (file_content f).observed
  pub negated_are : c.negated ≡ negated_atoms (file_names f) (file_content f).observed
  pub queries_are : list_of c.formulas (λ q. formula_of (nodes_of c.nodes t.formula q)) ≡ (file_content f).queries
  pub prices_are : (a : ℕ) → a < price_size → get_or t.prices a 0 ≡ price_in (file_content f).costs a
  pub edition-is : c.edition ≡ edition_of (file_content f).editions
