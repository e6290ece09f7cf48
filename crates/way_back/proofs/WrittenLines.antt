-- The lines of what is well formed are read as it.
--
--   Writes name st    st is well formed, and name gives its names by their numbers
-- Assumes nothing.
use mathlib.Core.Path.{ap₂, subst}
use mathlib.Core.List.{List, [], ◌∷◌, ◌++◌, map}
use Prim.Native.Nat.{ℕ, ◌≤◌}
use native.Mathlib.Omega.{arith}
use lib.ListN.{length}
use Rattle.text.proofs.Each.{Each, each-split, each_both}
use Rattle.grammar.specs.Line.{Line, Literal, body_names}
use Rattle.store.specs.Saying.{Said, said, nothing_said}
use Rattle.checks.specs.Naming.{IsName}
use Rattle.reader.proofs.WellFormed.{Rows, ClauseFormed, ConstraintFormed, QueryFormed, IsEdition, WellFormed}
use Rattle.writing.specs.Lines.{literals_for, clause_line, constraint_line, query_line, cost_line, lines_of, line_text}
use Rattle.writing.proofs.Costs.{CostFormed, Fresh}
use Rattle.way_back.proofs.FittingLines.{Reads, reads-append, Written, Left}
use Rattle.way_back.proofs.KnownNames.{NamedBy, Usable}
use Rattle.way_back.proofs.Bodies.{body-usable, plain-again, negated-again}
use Rattle.way_back.proofs.AtomLines.{atoms-read}
use Rattle.way_back.proofs.EditionLines.{editions-read}
use Rattle.way_back.proofs.ClauseLines.{clauses-read, constraints-read}
use Rattle.way_back.proofs.SeenLines.{readings-read}
use Rattle.way_back.proofs.QueryLines.{queries-read}
use Rattle.way_back.proofs.CostLines.{costs-read}

-- the line is at most 200 bytes long
abbrev pub Short : Line → Type 0
Short x = length (line_text x) ≤ 200

pub record Writes (name : ℕ → List ℕ) (st : Said) : Type 0 where
  pub formed : WellFormed st
  pub named : NamedBy st.names name
  pub costs-formed : Each (CostFormed (length st.names)) st.costs
  pub costs-fresh : Fresh [] st.costs

-- ---- entries with their lines
module _ {A : Type 0} (line : A → Line) where
  each-short : (l : List A) → Each Short (map line l) → Each (λ a. Short (line a)) l
  each-short [] h = tt
  each-short (a ∷ l) h = (h.0, each-short l h.1)

  each-written : (P : A → Type 0) (l : List A) → Each P l → Each Short (map line l) → Each (Written line P) l
  each-written P l p s = each_both P (λ a. Short (line a)) l p (each-short l s)

  all_left : (P : A → Type 0) (m : ℕ) (l : List A) → Rows P m l → Each Short (map line l)
      → Left (Written line P) m [] l
  all_left P m l r s = record { few = omega (arith, r.few); each = each-written P l r.each s }

-- what holds of the names of literals holds of those of each
each-literal : (P : List ℕ → Type 0) (l : List Literal) → Each P (body_names l)
    → Each (λ x. Each P (body_names (x ∷ []))) l
each-literal P [] h = tt
each-literal P (Literal.literal b w ∷ l) h = ((h.0, tt), each-literal P l h.1)

-- short lines one behind the other
in_turn : (st u v : Said) (xs ys : List Line) → (Each Short xs → Reads st xs u) → (Each Short ys → Reads u ys v)
    → Each Short (xs ++ ys) → Reads st (xs ++ ys) v
in_turn st u v xs ys f g s = let k = each-split Short xs ys s in reads-append xs ys st u v (f k.0) (g k.1)

-- ---- all lines
module _ (name : ℕ → List ℕ) (st : Said) (w : Writes name st) where
  abbrev ns : List (List ℕ)
  ns = st.names

  abbrev n : ℕ
  n = length st.names

  abbrev es : List ℕ
  es = st.editions

  abbrev seen : List Literal
  seen = literals_for name st.plain st.negated

  -- what was read behind the atom lines, the edition, the clauses, the constraints, the readings and the queries
  abbrev after-atoms : Said
  after-atoms = said ns [] [] 0 0 [] [] []

  abbrev after-editions : Said
  after-editions = said ns [] [] 0 0 [] [] es

  abbrev after-clauses : Said
  after-clauses = said ns st.clauses [] 0 0 [] [] es

  abbrev after-constraints : Said
  after-constraints = said ns st.clauses st.constraints 0 0 [] [] es

  abbrev after-readings : Said
  after-readings = said ns st.clauses st.constraints st.plain st.negated [] [] es

  abbrev after-queries : Said
  after-queries = said ns st.clauses st.constraints st.plain st.negated st.queries [] es

  atoms : Each Short (map Line.atom ns) → Reads nothing_said (map Line.atom ns) after-atoms
  atoms s =
      atoms-read ns (all_left Line.atom IsName 64 ns w.formed.names.rows s) w.formed.names.distinct

  editions : Each Short (map Line.edition es) → Reads after-atoms (map Line.edition es) after-editions
  editions s = editions-read ns w.named.few es (all_left Line.edition IsEdition 1 es w.formed.editions s)

  clauses : Each Short (map (clause_line name) st.clauses)
      → Reads after-editions (map (clause_line name) st.clauses) after-clauses
  clauses s =
      clauses-read ns name w.named es w.formed.editions.few st.clauses
      (all_left (clause_line name) (ClauseFormed n) 256 st.clauses w.formed.clauses s)

  constraints : Each Short (map (constraint_line name) st.constraints)
      → Reads after-clauses (map (constraint_line name) st.constraints) after-constraints
  constraints s =
      constraints-read ns name w.named es w.formed.editions.few st.clauses w.formed.clauses.few
      st.constraints
      (all_left (constraint_line name) (ConstraintFormed n) 32 st.constraints w.formed.constraints s)

  readings : Each Short (map Line.seen seen) → Reads after-constraints (map Line.seen seen) after-readings
  readings s =
      subst (Reads after-constraints (map Line.seen seen))
      (ap₂ (λ p q. said ns st.clauses st.constraints p q [] [] es)
      (plain-again ns name w.named st.plain st.negated w.formed.observed)
      (negated-again ns name w.named st.plain st.negated w.formed.observed))
      (readings-read ns w.named.few es w.formed.editions.few st.clauses w.formed.clauses.few
      st.constraints w.formed.constraints.few seen
      (each-written Line.seen (λ x. Each (Usable ns) (body_names (x ∷ []))) seen
      (each-literal (Usable ns) seen
      (body-usable ns name w.named st.plain st.negated w.formed.observed)) s))

  queries : Each Short (map (query_line name) st.queries)
      → Reads after-readings (map (query_line name) st.queries) after-queries
  queries s =
      queries-read ns name w.named es w.formed.editions.few st.clauses w.formed.clauses.few
      st.constraints w.formed.constraints.few st.plain st.negated st.queries
      (all_left (query_line name) (QueryFormed n) 16 st.queries w.formed.queries s)

  costs : Each Short (map (cost_line name) st.costs) → Reads after-queries (map (cost_line name) st.costs) st
  costs s =
      costs-read ns name w.named es w.formed.editions.few st.clauses w.formed.clauses.few
      st.constraints w.formed.constraints.few st.plain st.negated st.queries
      w.formed.queries.few st.costs
      (each-written (cost_line name) (CostFormed n) st.costs w.costs-formed s) w.costs-fresh

  pub written_read : Each Short (lines_of name st) → Reads nothing_said (lines_of name st) st
  written_read =
      in_turn nothing_said after-atoms st (map Line.atom ns) _ atoms
      (in_turn after-atoms after-editions st (map Line.edition es) _ editions
      (in_turn after-editions after-clauses st (map (clause_line name) st.clauses) _ clauses
      (in_turn after-clauses after-constraints st (map (constraint_line name) st.constraints) _ constraints
      (in_turn after-constraints after-readings st (map Line.seen seen) _ readings
      (in_turn after-readings after-queries st (map (query_line name) st.queries) _ queries costs)))))
