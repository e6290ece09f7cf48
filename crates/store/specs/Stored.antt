-- What storing a form of a line leaves.
--
--   with_rows c n m      the record c with n clauses and m constraints; with_formula, with_observed_atoms and
--                        of_edition are alike
--   ClauseStored ..      one clause more; ConstraintStored, ObservedStored, QueryStored are alike
--   with_price t a p     the table t with the price p of atom a, where a is below 64
--   Room c b             behind c there is room for what a line brings, and its price and supplement are in their
--                        limits
--   Storable l x c y     x is the form, or none, of the line l, which says y, and behind c there is room for it
--   StoredAs y c t r u   the record r and the tables u are c and t with what the line y says
use Rattle.std.specs.Prelude.{◌≡◌, Option, false, List, [], ◌∷◌, ℕ, ◌+◌, ◌*◌, ◌≤◌, ltb, length, set, take, drop}
use Rattle.std.proofs.lemmas.List.Edits.{sets}
use Rattle.words.specs.Choice.{pick}
use Rattle.program.specs.declared.case.Case.{Case}
use Rattle.program.specs.Case.{part_size}
use Rattle.text.specs.Tokens.{tokens}
use Rattle.grammar.specs.declared.brings.Brings.{Brings}
use Rattle.grammar.specs.declared.line.Form.{Form}
use Rattle.grammar.specs.Line.{Line, line_names}
use Rattle.grammar.specs.Bringing.{brings}
use Rattle.grammar.specs.Parsing.{FormOrNone}
use Rattle.names.specs.Names.{with_names}
use Rattle.names.specs.Row.{row_of}
use Rattle.store.specs.declared.masks.Masks.{Masks}
use Rattle.store.specs.Lent.{Lent}
use Rattle.store.specs.Saying.{Said, or_atoms, said_by, is_second_cost}
use Rattle.store.specs.Tables.{case_with}
use Rattle.store.specs.Nodes.{nodes_from, node_table, with_nodes}
use Rattle.store.specs.Held.{Held, Kept}

abbrev pub with_rows : Case → ℕ → ℕ → Case
with_rows c n m = case_with c.atoms n m c.formulas c.plain c.negated c.nodes c.edition

-- one formula more, with n nodes
abbrev pub with_formula : Case → ℕ → Case
with_formula c n =
    case_with c.atoms c.clauses c.constraints (c.formulas + 1) c.plain c.negated
    (set c.nodes c.formulas n) c.edition

abbrev pub with_observed_atoms : Case → ℕ → ℕ → Case
with_observed_atoms c p q = case_with c.atoms c.clauses c.constraints c.formulas p q c.nodes c.edition

-- with the edition e
abbrev pub of_edition : Case → ℕ → Case
of_edition c e = case_with c.atoms c.clauses c.constraints c.formulas c.plain c.negated c.nodes e

-- one clause more, with the head w, by the names in the table na
pub record ClauseStored (w : List ℕ) (kind : ℕ) (m : Masks) (c : Case) (na cl : List ℕ) (r : Case) (u : List ℕ)
    : Type 0 where
  pub counted : r ≡ with_rows c (c.clauses + 1) c.constraints
  pub table_is : u ≡ sets cl (3 * c.clauses) ((row_of na c.atoms w + 64 * kind) ∷ (m.plain ∷ (m.negated ∷ [])))

pub record ConstraintStored (m : Masks) (kind : ℕ) (c : Case) (co : List ℕ) (r : Case) (u : List ℕ) : Type 0 where
  pub counted : r ≡ with_rows c c.clauses (c.constraints + 1)
  pub table_is : u ≡ sets co (3 * c.constraints) (m.plain ∷ (m.negated ∷ (kind ∷ [])))

abbrev pub ObservedStored : Masks → Case → Case → Type 0
ObservedStored m c r = r ≡ with_observed_atoms c (or_atoms c.plain m.plain) (or_atoms c.negated m.negated)

-- the nodes of the query at place at of the line l more, in the part behind those in use; what stands before is kept
pub record QueryStored (l : List ℕ) (at : ℕ) (c : Case) (na fo : List ℕ) (r : Case) (u : List ℕ) : Type 0 where
  pub count : ℕ
  pub counted : r ≡ with_formula c count
  pub before-kept : take (part_size * c.formulas) u ≡ take (part_size * c.formulas) fo
  pub nodes_are : node_table count (drop (part_size * c.formulas) u)
      ≡ with_nodes (node_table 0 (drop (part_size * c.formulas) fo))
      (nodes_from (row_of na c.atoms) false (tokens (drop at l)))

abbrev pub with_price : List ℕ → ℕ → ℕ → List ℕ
with_price t a p = pick (ltb a 64) (set t a p) t

pub record Room (c : Case) (b : Brings) : Type 0 where
  pub clauses_fit : c.clauses + b.clauses ≤ 256
  pub constraints_fit : c.constraints + b.constraints ≤ 32
  pub queries_fit : c.formulas + b.queries ≤ 16
  pub price-fits : b.price ≤ 2000000
  pub supplement-fits : b.supplement ≤ 100

pub record Storable (l : List ℕ) (x : Option Form) (c : Case) (y : Line) : Type 0 where
  pub short : length l ≤ 200
  pub form-is : FormOrNone l x y
  pub atoms-few : c.atoms ≤ 64
  pub room : Room c (brings y)

-- where the names of the line are among those read so far, and the line is no second cost
pub record StoredAs (y : Line) (c : Case) (t : Lent) (r : Case) (u : Lent) : Type 0 where
  pub kept : Kept t u
  pub held : (st : Said) → Held st c t → with_names st.names (line_names y) ≡ st.names
      → is_second_cost st y ≡ false → Held (said_by st y) r u
