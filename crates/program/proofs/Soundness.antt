-- Laws of soundness: what is known of a sound case, phrase by phrase. Assumes nothing.
use mathlib.Core.Path.{◌≡◌, refl, ◌∙◌}
use mathlib.Core.Bool.{Bool, true, false, not, ◌&&◌, false≢true}
use mathlib.Core.List.{List}
use Prim.Native.Nat.{ℕ, ◌+◌, ◌-◌, ◌*◌, ◌/◌, ◌%◌, ◌≤◌, ◌<◌}
use native.Mathlib.Omega.{arith}
use lib.Dec.{ltb, leb}
use lib.ListN.{length, get_or, take, length-take, length-drop}
use borrow.Author.Tests.{ltb-true, leb-true, le-leb}
use borrow.Rule.Slice.PartMut.{mid_of}
use Rattle.words.proofs.Tests.{and_true_l, and_true_r}
use Rattle.words.proofs.Below.{every-at}
use Rattle.logic.specs.Nodes.{one_formula}
use Rattle.program.specs.declared.case.Case.{Case}
use Rattle.program.specs.declared.clause.Clause.{Clause}
use Rattle.program.specs.Clauses.{ClauseAt}
use Rattle.program.specs.Case.{clause_size, constraint_size, formula_size, part_size, tables_full, head_at, plain_at}
use Rattle.program.specs.Case.{negated_at, forbidden, forbidden_not, constraint_kind, nodes_of}
use Rattle.program.specs.Cause.{causes_of}
use Rattle.program.specs.Setting.{settings_of}
use Rattle.program.specs.Sound.{is_edition, limits_hold, within, bare, shaped, sound_clause, sound_clauses}
use Rattle.program.specs.Sound.{sound_constraint, sound_constraints, few_settings, sound_formula}
use Rattle.program.specs.Sound.{sound_formulas, sound}

-- ---- the entries of a table
abbrev pub clause_test : ℕ → List ℕ → ℕ → Bool
clause_test n cl k = sound_clause n (get_or cl (3 * k) 0) (plain_at cl k) (negated_at cl k)

pub clause_tested : (n : ℕ) (cl : List ℕ) (k : ℕ) (c : Clause) → ClauseAt cl k c
    → sound_clause n (c.head + 64 * c.kind) c.plain c.negated ≡ clause_test n cl k
clause_tested n cl k c a =
    let e : c.head + 64 * c.kind ≡ get_or cl (3 * k) 0 = omega (arith, a.head-is, a.kind-is) in
    rw (e, a.plain-is, a.negated-is)

abbrev pub constraint_test : ℕ → List ℕ → ℕ → Bool
constraint_test n co k = sound_constraint n (forbidden co k) (forbidden_not co k) (constraint_kind co k)

clause-head : (n first p q : ℕ) → sound_clause n first p q ≡ true → first % 64 < n
unfolding sound_clause
clause-head n first p q e =
    ltb-true (first % 64) n
    (and_true_l (ltb (first % 64) n) (within n p q)
    (and_true_l (ltb (first % 64) n && within n p q) (shaped (first / 64) (bare p q)) e))

constraint-two : (n p q k : ℕ) → sound_constraint n p q k ≡ true → k < 2
unfolding sound_constraint
constraint-two n p q k e = ltb-true k 2 (and_true_r (within n p q && not (bare p q)) (ltb k 2) e)

-- ---- phrases that hold together hold each
Seven : Bool → Bool → Bool → Bool → Bool → Bool → Bool → Type 0
Seven a b c d e f g = (a ≡ true) × (b ≡ true) × (c ≡ true) × (d ≡ true) × (e ≡ true) × (f ≡ true) × (g ≡ true)

seven : (a b c d e f g : Bool) → (a && b && c && d && e && f && g) ≡ true → Seven a b c d e f g
unfolding Seven
seven true true true true true true g h = (refl, refl, refl, refl, refl, refl, h)
seven false b c d e f g h = absurd (false≢true h)
seven true false c d e f g h = absurd (false≢true h)
seven true true false d e f g h = absurd (false≢true h)
seven true true true false e f g h = absurd (false≢true h)
seven true true true true false f g h = absurd (false≢true h)
seven true true true true true false g h = absurd (false≢true h)

-- ---- full tables
module _ (cl co fo : List ℕ) (h : tables_full cl co fo ≡ true) where
  sizes : Seven true true true true (leb clause_size (length cl)) (leb constraint_size (length co))
      (leb formula_size (length fo))
  unfolding tables_full
  sizes =
      seven true true true true (leb clause_size (length cl)) (leb constraint_size (length co))
      (leb formula_size (length fo)) h

  pub full-clauses : clause_size ≤ length cl
  unfolding Seven
  full-clauses = leb-true clause_size (length cl) sizes.4

  pub full-constraints : constraint_size ≤ length co
  unfolding Seven
  full-constraints = leb-true constraint_size (length co) sizes.5

  pub full-formula : formula_size ≤ length fo
  unfolding Seven
  full-formula = leb-true formula_size (length fo) sizes.6

-- ---- counts within the limits
module _ (c : Case) (h : limits_hold c ≡ true) where
  limits : Seven (leb 1 c.atoms) (leb c.atoms 64) (leb c.clauses 256) (leb c.constraints 32)
      (leb 1 c.formulas) (leb c.formulas 16) (is_edition c.edition)
  unfolding limits_hold
  limits =
      seven (leb 1 c.atoms) (leb c.atoms 64) (leb c.clauses 256) (leb c.constraints 32)
      (leb 1 c.formulas) (leb c.formulas 16) (is_edition c.edition) h

  pub limits-atoms : (1 ≤ c.atoms) × (c.atoms ≤ 64)
  unfolding Seven
  limits-atoms = (leb-true 1 c.atoms limits.0, leb-true c.atoms 64 limits.1)

  limits-clauses : c.clauses ≤ 256
  unfolding Seven
  limits-clauses = leb-true c.clauses 256 limits.2

  limits-constraints : c.constraints ≤ 32
  unfolding Seven
  limits-constraints = leb-true c.constraints 32 limits.3

  limits-formulas : (1 ≤ c.formulas) × (c.formulas ≤ 16)
  unfolding Seven
  limits-formulas = (leb-true 1 c.formulas limits.4, leb-true c.formulas 16 limits.5)

  limits-edition : is_edition c.edition ≡ true
  unfolding Seven
  limits-edition = limits.6

-- ---- tables that hold as many entries as the counts say
module _ (c : Case) (cl co fo : List ℕ) (f : tables_full cl co fo ≡ true) (h : limits_hold c ≡ true) where
  pub clauses-held : (1 ≤ c.atoms) × (c.atoms ≤ 64) × (c.clauses ≤ 256) × (3 * c.clauses ≤ length cl)
  clauses-held =
      let a = limits-atoms c h in
      let n = limits-clauses c h in
      (a.0, a.1, n, omega (arith, full-clauses cl co fo f))

  pub constraints-held : (1 ≤ c.atoms) × (c.atoms ≤ 64) × (c.constraints ≤ 32) × (3 * c.constraints ≤ length co)
  constraints-held =
      let a = limits-atoms c h in
      let n = limits-constraints c h in
      (a.0, a.1, n, omega (arith, full-constraints cl co fo f))

  pub formulas-held : (c.formulas ≤ 16) × (formula_size ≤ length fo)
  formulas-held = ((limits-formulas c h).1, full-formula cl co fo f)

-- ---- a formula: too many nodes, or the nodes decide
module _ (n : ℕ) (ns fo : List ℕ) (q : ℕ) where
  pub formula-fits : get_or ns q 0 ≤ part_size → one_formula n (nodes_of ns fo q) ≡ sound_formula n ns fo q
  unfolding sound_formula
  formula-fits l = rw (le-leb (get_or ns q 0) part_size l)

  module _ (h : sound_formula n ns fo q ≡ true) where
    pub formula-few : get_or ns q 0 ≤ part_size
    unfolding sound_formula
    formula-few =
        leb-true (get_or ns q 0) part_size
        (and_true_l (leb (get_or ns q 0) part_size) (one_formula n (nodes_of ns fo q)) h)

    pub formula-one : one_formula n (nodes_of ns fo q) ≡ true
    formula-one = formula-fits formula-few ∙ h

-- its nodes are as many as ns says
pub nodes-length : (ns fo : List ℕ) (q : ℕ) → part_size * q + get_or ns q 0 ≤ length fo
    → length (nodes_of ns fo q) ≡ get_or ns q 0
unfolding nodes_of
nodes-length ns fo q l = simp (length-take, length-drop) (omega arith)

pub nodes-first : (ns fo : List ℕ) → nodes_of ns fo 0 ≡ take (get_or ns 0 0) fo
unfolding nodes_of
nodes-first ns fo = refl

-- the part of the table that the code lends
pub nodes-lent : (ns fo : List ℕ) (q : ℕ)
    → mid_of (part_size * q) (part_size * q + get_or ns q 0 - part_size * q) fo ≡ nodes_of ns fo q
unfolding nodes_of
nodes-lent ns fo q =
    let e : part_size * q + get_or ns q 0 - part_size * q ≡ get_or ns q 0 = omega arith in
    rw e

-- ---- a sound case
module _ (c : Case) (cl co fo : List ℕ) (h : sound c cl co fo ≡ true) where
  phrases : Seven (tables_full cl co fo) (limits_hold c) (sound_clauses c.atoms cl c.clauses)
      (sound_constraints c.atoms co c.constraints) (within c.atoms c.plain c.negated)
      (few_settings c.edition c.atoms cl c.clauses) (sound_formulas c.atoms c.nodes fo c.formulas)
  unfolding sound
  phrases =
      seven (tables_full cl co fo) (limits_hold c) (sound_clauses c.atoms cl c.clauses)
      (sound_constraints c.atoms co c.constraints) (within c.atoms c.plain c.negated)
      (few_settings c.edition c.atoms cl c.clauses) (sound_formulas c.atoms c.nodes fo c.formulas) h

  pub sound-full : tables_full cl co fo ≡ true
  unfolding Seven
  sound-full = phrases.0

  pub sound-limits : limits_hold c ≡ true
  unfolding Seven
  sound-limits = phrases.1

  pub sound-clause-table : sound_clauses c.atoms cl c.clauses ≡ true
  unfolding Seven
  sound-clause-table = phrases.2

  pub sound-constraint-table : sound_constraints c.atoms co c.constraints ≡ true
  unfolding Seven
  sound-constraint-table = phrases.3

  pub sound-within : within c.atoms c.plain c.negated ≡ true
  unfolding Seven
  sound-within = phrases.4

  pub sound-few : few_settings c.edition c.atoms cl c.clauses ≡ true
  unfolding Seven
  sound-few = phrases.5

  pub sound-formula-table : sound_formulas c.atoms c.nodes fo c.formulas ≡ true
  unfolding Seven
  sound-formula-table = phrases.6

  pub sound-atoms : (1 ≤ c.atoms) × (c.atoms ≤ 64)
  sound-atoms = limits-atoms c sound-limits

  pub sound-clauses : c.clauses ≤ 256
  sound-clauses = limits-clauses c sound-limits

  pub sound-constraints : c.constraints ≤ 32
  sound-constraints = limits-constraints c sound-limits

  pub sound-formulas : (1 ≤ c.formulas) × (c.formulas ≤ 16)
  sound-formulas = limits-formulas c sound-limits

  pub sound-edition : is_edition c.edition ≡ true
  sound-edition = limits-edition c sound-limits

  -- each of its formulas
  module _ (q : ℕ) (l : q < c.formulas) where
    pub sound-each : sound_formula c.atoms c.nodes fo q ≡ true
    unfolding sound_formulas
    sound-each = every-at c.formulas (sound_formula c.atoms c.nodes fo) sound-formula-table q l

  pub sound-head : (k : ℕ) → k < c.clauses → head_at cl k < c.atoms
  unfolding sound_clauses
  sound-head k l =
      clause-head c.atoms (get_or cl (3 * k) 0) (plain_at cl k) (negated_at cl k)
      (every-at c.clauses (clause_test c.atoms cl) sound-clause-table k l)

  pub sound-kind : (k : ℕ) → k < c.constraints → constraint_kind co k < 2
  unfolding sound_constraints
  sound-kind k l =
      constraint-two c.atoms (forbidden co k) (forbidden_not co k) (constraint_kind co k)
      (every-at c.constraints (constraint_test c.atoms co) sound-constraint-table k l)

  pub sound-settings : settings_of (causes_of c cl) ≤ 59049
  unfolding few_settings causes_of
  sound-settings = leb-true (settings_of (causes_of c cl)) 59049 sound-few

-- where the other phrases hold, the formulas decide
pub sound-rest : (c : Case) (cl co fo : List ℕ) → tables_full cl co fo ≡ true → limits_hold c ≡ true
    → sound_clauses c.atoms cl c.clauses ≡ true → sound_constraints c.atoms co c.constraints ≡ true
    → within c.atoms c.plain c.negated ≡ true → few_settings c.edition c.atoms cl c.clauses ≡ true
    → sound_formulas c.atoms c.nodes fo c.formulas ≡ sound c cl co fo
unfolding sound
sound-rest c cl co fo full limits clauses constraints observed few =
    rw (full, limits, clauses, constraints, observed, few)
