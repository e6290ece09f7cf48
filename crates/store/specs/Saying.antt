-- What a file says: names, clauses, constraints, observed literals, queries, costs and editions, by atom numbers.
-- From: document 01, "The file" and "Case tables and sound cases"; document 02, [5] (the kind of a constraint), [7]
-- (costs), [8] (an atom line "only names an atom"), [10] ("`(edition 1)` or no line leaves it off").
--
--   Said                  what was read so far; plain and negated are the observed atoms, bit i for atom i; editions
--                         are the numbers of the edition lines, in file order
--   nothing_said          what was read before the first line; renamed and with.. are st with a part exchanged
--   edition_of es         the edition by the edition lines es: that of the last, 1 without one
--   some_on at b ls a     some literal of ls is on atom a, by the lookup at
--   atoms_by at b ls      the atoms of the negated (b) or plain literals of ls, bit i for atom i; one repeated counts
--                         once
--   plain_atoms ns ls     the atoms of the plain literals of ls, by the names ns; negated_atoms those of the negated
--                         ones
--   encoded_by at f       the formula f with the names' atoms by the lookup at; encoded ns f by the names ns
--   said_by st x          st, which has the names of the line x already, with what x says; an atom line says no more
--   is_second_cost st x   x is a cost of a name that has one in st, which has the names of x already
use Rattle.std.specs.Prelude.{Bool, true, false, not, ◌&&◌, ◌||◌, List, [], ◌∷◌, ◌++◌, ℕ, ◌-◌, eqb}
use Rattle.words.specs.Choice.{pick}
use Rattle.words.specs.Bits.{has, word}
use Rattle.logic.specs.Formula.{Formula}
use Rattle.logic.specs.Nodes.{joined}
use Rattle.text.specs.Numbers.{number_of}
use Rattle.formulas.specs.Sentence.{Sentence}
use Rattle.grammar.specs.Line.{Line, Literal}
use Rattle.names.specs.Names.{atom_of}
use Rattle.store.specs.Prices.{CostRow, price_of, has_cost}

-- a clause by its head, its kind (0 fact, 1 assumption, 2 rule) and the atoms of its literals
pub record ClauseRow : Type 0 where
  pub head : ℕ
  pub kind : ℕ
  pub plain : ℕ
  pub negated : ℕ

-- a constraint by the atoms of its literals and its kind (0 never, 1 avoid)
pub record ConstraintRow : Type 0 where
  pub plain : ℕ
  pub negated : ℕ
  pub kind : ℕ

pub record Said : Type 0 where
  pub names : List (List ℕ)
  pub clauses : List ClauseRow
  pub constraints : List ConstraintRow
  pub plain : ℕ
  pub negated : ℕ
  pub queries : List Formula
  pub costs : List CostRow
  pub editions : List ℕ

-- what was read, by its parts
abbrev pub said : List (List ℕ) → List ClauseRow → List ConstraintRow → ℕ → ℕ → List Formula → List CostRow → List ℕ
    → Said
said ns cs ds p q fs ks es = record {
  names = ns;
  clauses = cs;
  constraints = ds;
  plain = p;
  negated = q;
  queries = fs;
  costs = ks;
  editions = es;
}

abbrev pub nothing_said : Said
nothing_said = said [] [] [] 0 0 [] [] []

-- the last number, d where there is none
unfoldable pub last_or : ℕ → List ℕ → ℕ
last_or d [] = d
last_or d (e ∷ es) = last_or e es

abbrev pub edition_of : List ℕ → ℕ
edition_of es = last_or 1 es

-- some literal of l is on atom a, negated where b holds and plain otherwise
unfoldable pub some_on : (List ℕ → ℕ) → Bool → List Literal → ℕ → Bool
some_on at b [] a = false
some_on at b (Literal.literal n w ∷ l) a = (pick b n (not n) && eqb (at w) a) || some_on at b l a

unfoldable pub atoms_by : (List ℕ → ℕ) → Bool → List Literal → ℕ
atoms_by at b l = word 64 (some_on at b l)

abbrev pub plain_atoms : List (List ℕ) → List Literal → ℕ
plain_atoms ns l = atoms_by (atom_of ns) false l

abbrev pub negated_atoms : List (List ℕ) → List Literal → ℕ
negated_atoms ns l = atoms_by (atom_of ns) true l

unfoldable pub encoded_by : (List ℕ → ℕ) → Sentence → Formula
encoded_by at (Sentence.name w) = Formula.atom (at w)
encoded_by at (Sentence.negation f) = Formula.negation (encoded_by at f)
encoded_by at (Sentence.joined k f g) = joined (k - 65) (encoded_by at f) (encoded_by at g)

abbrev pub encoded : List (List ℕ) → Sentence → Formula
encoded ns f = encoded_by (atom_of ns) f

abbrev pub clause_row : List (List ℕ) → ℕ → List ℕ → List Literal → ClauseRow
clause_row ns k w l = record { head = atom_of ns w; kind = k; plain = plain_atoms ns l; negated = negated_atoms ns l }

abbrev pub constraint_row : List (List ℕ) → ℕ → List Literal → ConstraintRow
constraint_row ns k l = record { plain = plain_atoms ns l; negated = negated_atoms ns l; kind = k }

-- p and s are the words of the price and the supplement
abbrev pub cost_row : List (List ℕ) → List ℕ → List ℕ → List ℕ → CostRow
cost_row ns w p s = record { atom = atom_of ns w; price = price_of (number_of p) (number_of s) }

-- the atoms of two words
abbrev pub or_atoms : ℕ → ℕ → ℕ
or_atoms v w = word 64 (λ a. has v a || has w a)

-- st with the names ns
abbrev pub renamed : List (List ℕ) → Said → Said
renamed ns st =
    said ns st.clauses st.constraints st.plain st.negated st.queries st.costs st.editions

-- st with a clause, a constraint, observed literals, a query, a cost or an edition more
abbrev pub with_clause : Said → ClauseRow → Said
with_clause st c =
    said st.names (st.clauses ++ (c ∷ [])) st.constraints st.plain st.negated st.queries st.costs
    st.editions

abbrev pub with_constraint : Said → ConstraintRow → Said
with_constraint st c =
    said st.names st.clauses (st.constraints ++ (c ∷ [])) st.plain st.negated st.queries st.costs
    st.editions

abbrev pub with_observed : Said → List Literal → Said
with_observed st l =
    said st.names st.clauses st.constraints (or_atoms st.plain (plain_atoms st.names l))
    (or_atoms st.negated (negated_atoms st.names l)) st.queries st.costs st.editions

abbrev pub with_query : Said → Formula → Said
with_query st f =
    said st.names st.clauses st.constraints st.plain st.negated (st.queries ++ (f ∷ [])) st.costs
    st.editions

abbrev pub with_cost : Said → CostRow → Said
with_cost st r =
    said st.names st.clauses st.constraints st.plain st.negated st.queries (st.costs ++ (r ∷ []))
    st.editions

abbrev pub with_edition : Said → ℕ → Said
with_edition st e =
    said st.names st.clauses st.constraints st.plain st.negated st.queries st.costs
    (st.editions ++ (e ∷ []))

unfoldable pub said_by : Said → Line → Said
said_by st Line.skipped = st
said_by st Line.no_form = st
said_by st (Line.clause k w l) = with_clause st (clause_row st.names k w l)
said_by st (Line.constraint k l) = with_constraint st (constraint_row st.names k l)
said_by st (Line.seen x) = with_observed st (x ∷ [])
said_by st (Line.query f) = with_query st (encoded st.names f)
said_by st (Line.cost w p s) = with_cost st (cost_row st.names w p s)
said_by st (Line.atom w) = st
said_by st (Line.edition e) = with_edition st e

unfoldable pub is_second_cost : Said → Line → Bool
is_second_cost st Line.skipped = false
is_second_cost st Line.no_form = false
is_second_cost st (Line.clause k w l) = false
is_second_cost st (Line.constraint k l) = false
is_second_cost st (Line.seen x) = false
is_second_cost st (Line.query f) = false
is_second_cost st (Line.cost w p s) = has_cost st.costs (atom_of st.names w)
is_second_cost st (Line.atom w) = false
is_second_cost st (Line.edition e) = false
