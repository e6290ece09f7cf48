-- What is known of a writable case: it is sound, and what it says in its used entries is well formed.
--
--   name-is, row_is     row a of its names table is a name, and that name and zeros
--   names-formed        its names are names and differ; name-atom: the number of its name a is a
--   prices-few          its prices are at most 2,000,000
--   said-formed         what it says is well formed
-- Assumes nothing.
use mathlib.Core.Path.{◌≡◌, sym, ap, ◌∙◌}
use mathlib.Core.Bool.{true}
use mathlib.Core.List.{List, []}
use Prim.Native.Nat.{ℕ, ◌≤◌, ◌<◌}
use native.Mathlib.Omega.{arith}
use lib.ListN.{length, get_or}
use Rattle.words.specs.Lists.{list_of}
use Rattle.words.proofs.Lists.{list_of-length, list_of-at}
use Rattle.program.specs.declared.case.Case.{Case}
use Rattle.program.specs.Sound.{sound}
use Rattle.program.proofs.Soundness.{sound-within, sound-atoms, sound-clauses, sound-constraints, sound-formulas}
use Rattle.program.proofs.Soundness.{sound-each}
use Rattle.program.proofs.SoundEntries.{each-clause-sound, each-constraint-sound}
use Rattle.table.specs.Filled.{padded}
use Rattle.names.specs.Names.{atom_of}
use Rattle.names.specs.Row.{row_at, name_in}
use Rattle.names.proofs.Distinct.{Distinct}
use Rattle.names.proofs.Adding.{distinct-atom}
use Rattle.store.specs.Lent.{Lent}
use Rattle.checks.specs.Naming.{IsName}
use Rattle.reader.proofs.WellFormed.{NamesFormed, ClauseFormed, ConstraintFormed, QueryFormed, WellFormed}
use Rattle.reader.proofs.WellFormed.{well_formed}
use Rattle.writing.specs.Used.{clause_in, constraint_in, formula_in, said_of}
use Rattle.writing.specs.Operation.{writable}
use Rattle.writing.proofs.Editions.{editions-formed}
use Rattle.writing.proofs.Rows.{rows_list_of}
use Rattle.writing.proofs.CaseRoom.{writable-sound}
use Rattle.writing.proofs.WritableAtoms.{writable-atom, price-few, atom-name, atom-row, row_fresh}
use Rattle.way_back.proofs.Formed.{within-formed, clause-formed, constraint-formed, query-formed}

-- The case

module _ (c : Case) (t : Lent) (h : writable c t ≡ true) where
  is-sound : sound c t.clauses t.constraints t.formula ≡ true
  is-sound = writable-sound c t h

  abbrev pub names : List (List ℕ)
  names = list_of c.atoms (name_in t.names)

  -- Names

  module _ (a : ℕ) (l : a < c.atoms) where
    pub name-is : IsName (name_in t.names a)
    name-is = atom-name t a (writable-atom c t h a l)

    pub row_is : row_at t.names a ≡ padded 16 (name_in t.names a)
    row_is = atom-row t a (writable-atom c t h a l)

    pub prices-few : get_or t.prices a 0 ≤ 2000000
    prices-few = price-few t a (writable-atom c t h a l)

  names-differ : (i j : ℕ) → i < j → j < c.atoms → name_in t.names i ≡ name_in t.names j → ⊥
  names-differ i j lt l e =
      row_fresh t j (writable-atom c t h j l) i lt (row_is i (omega arith) ∙ ap (padded 16) e ∙ sym (row_is j l))

  names-distinct : Distinct names
  unfolding Distinct
  names-distinct =
      λ i j lt l e.
      let n = list_of-length c.atoms (name_in t.names) in
      names-differ i j lt (omega arith)
      (sym (list_of-at c.atoms (name_in t.names) i [] (omega arith)) ∙ e
      ∙ list_of-at c.atoms (name_in t.names) j [] (omega arith))

  pub names-formed : NamesFormed names
  names-formed = record {
    rows = rows_list_of IsName 64 c.atoms (name_in t.names) (sound-atoms c _ _ _ is-sound).1 name-is;
    distinct = names-distinct;
  }

  pub name-atom : (a : ℕ) → a < c.atoms → atom_of names (name_in t.names a) ≡ a
  name-atom a l =
      let n = list_of-length c.atoms (name_in t.names) in
      ap (atom_of names) (sym (list_of-at c.atoms (name_in t.names) a [] l))
      ∙ distinct-atom names a names-distinct (omega arith)

  -- Clauses, constraints and formulas

  pub each-clause : (k : ℕ) → k < c.clauses → ClauseFormed c.atoms (clause_in t.clauses k)
  each-clause k l = clause-formed c.atoms t.clauses k (each-clause-sound c _ _ _ is-sound k l)

  pub each-constraint : (k : ℕ) → k < c.constraints → ConstraintFormed c.atoms (constraint_in t.constraints k)
  each-constraint k l = constraint-formed c.atoms t.constraints k (each-constraint-sound c _ _ _ is-sound k l)

  pub each-formula : (q : ℕ) → q < c.formulas → QueryFormed c.atoms (formula_in c t.formula q)
  each-formula q l =
      query-formed c.atoms c.nodes t.formula q (sound-each c _ _ _ is-sound q l)

  -- All of it

  pub said-formed : WellFormed (said_of c t)
  said-formed =
      let same : length names ≡ c.atoms = list_of-length c.atoms (name_in t.names) in
      let s = is-sound in
      let clauses = rows_list_of (ClauseFormed c.atoms) 256 c.clauses _ (sound-clauses c _ _ _ s) each-clause in
      let constraints =
      rows_list_of (ConstraintFormed c.atoms) 32 c.constraints _ (sound-constraints c _ _ _ s) each-constraint in
      let queries =
      rows_list_of (QueryFormed c.atoms) 16 c.formulas _ (sound-formulas c _ _ _ s).1 each-formula in
      let observed = within-formed c.atoms c.plain c.negated (sound-within c _ _ _ s) in
      well_formed names-formed (rw same clauses) (rw same constraints) (rw same observed) (rw same queries)
      (editions-formed c.edition)
