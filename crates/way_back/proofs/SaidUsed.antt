-- The record and the tables that hold what a writable case says are the case's in their used entries. Assumes nothing.
use mathlib.Core.Path.{◌≡◌, refl, sym, ap, ◌∙◌}
use mathlib.Core.Bool.{true}
use mathlib.Core.List.{List}
use Prim.Native.Nat.{ℕ, ◌*◌, ◌≤◌, ◌<◌}
use native.Mathlib.Omega.{arith}
use lib.ListN.{length, take, drop, get_or}
use lib.Seq.{ext_get_or, get_or-take, length-take-le}
use Rattle.words.specs.Lists.{list_of}
use Rattle.words.proofs.Lists.{list_of-length, list_of-at}
use Rattle.logic.specs.Formula.{Formula}
use Rattle.logic.specs.Nodes.{nodes}
use Rattle.program.specs.declared.case.Case.{Case}
use Rattle.program.specs.Case.{clause_size, constraint_size, formula_size, name_size, price_size, part_size, nodes_of}
use Rattle.program.specs.Sound.{sound}
use Rattle.program.proofs.Soundness.{sound-atoms, sound-clauses, sound-constraints, sound-formulas, sound-each}
use Rattle.program.proofs.Soundness.{sound-edition, formula-few, nodes-length}
use Rattle.text.proofs.Slices.{slice_take}
use Rattle.table.specs.Filled.{filled, padded}
use Rattle.table.proofs.Filled.{filled-length}
use Rattle.names.specs.Row.{name_in}
use Rattle.names.proofs.Rows.{name-rows}
use Rattle.store.specs.Lent.{Lent, filled_with}
use Rattle.store.specs.Held.{Long}
use Rattle.store.specs.Prices.{prices_of}
use Rattle.store.specs.Tables.{words_of, case_said, node_counts, formula_parts}
use Rattle.store.proofs.Rows.{clause-rows, constraint-rows}
use Rattle.store.proofs.FilledRows.{count-is, formula-is}
use Rattle.store.proofs.Prices.{price-at}
use Rattle.reader.specs.Operation.{tables_fit}
use Rattle.reader.proofs.EarlyRefusals.{fit_long}
use Rattle.writing.specs.Used.{clause_in, constraint_in, formula_in, costs_in, said_of}
use Rattle.writing.specs.Operation.{writable}
use Rattle.way_back.specs.Claims.{SameUsed}
use Rattle.writing.proofs.CaseRoom.{writable-sound, formula-nodes}
use Rattle.writing.proofs.Costs.{costs-price}
use Rattle.writing.proofs.Editions.{edition-back}
use Rattle.way_back.proofs.Writable.{row_is}
use Rattle.way_back.proofs.UsedRows.{rows-used, clause-words, constraint-words}

module _ (c : Case) (t v : Lent) (h : writable c t ≡ true) (long : Long t) (room : Long v) where
  is-sound : sound c t.clauses t.constraints t.formula ≡ true
  is-sound = writable-sound c t h

  atoms-few : c.atoms ≤ 64
  atoms-few = (sound-atoms c _ _ _ is-sound).1

  -- Clauses, constraints and names

  clauses-used : take (3 * c.clauses) (filled_with (words_of (said_of c t)) v).clauses
      ≡ take (3 * c.clauses) t.clauses
  clauses-used =
      let few = sound-clauses c _ _ _ is-sound in
      let full = long.clauses-long in
      rows-used clause-rows (clause_in t.clauses) t.clauses c.clauses clause_size v.clauses
      (λ k l. clause-words t.clauses k (omega arith)) (omega arith) room.clauses-long

  constraints-used : take (3 * c.constraints) (filled_with (words_of (said_of c t)) v).constraints
      ≡ take (3 * c.constraints) t.constraints
  constraints-used =
      let few = sound-constraints c _ _ _ is-sound in
      let full = long.constraints-long in
      rows-used constraint-rows (constraint_in t.constraints) t.constraints c.constraints constraint_size
      v.constraints (λ k l. constraint-words t.constraints k (omega arith)) (omega arith)
      room.constraints-long

  name-bytes : (a : ℕ) → a < c.atoms → padded 16 (name_in t.names a) ≡ take 16 (drop (16 * a) t.names)
  name-bytes a l =
      let e : a * 16 ≡ 16 * a = omega arith in
      sym (row_is c t h a l) ∙ slice_take (a * 16) 16 t.names ∙ rw e

  names-used : take (16 * c.atoms) (filled_with (words_of (said_of c t)) v).names ≡ take (16 * c.atoms) t.names
  names-used =
      let few = atoms-few in
      rows-used name-rows (name_in t.names) t.names c.atoms name_size v.names name-bytes (omega arith)
      room.names-long

  -- Formulas

  abbrev queries : List Formula
  queries = list_of c.formulas (formula_in c t.formula)

  abbrev counts : List ℕ
  counts = padded 16 (node_counts queries)

  abbrev parts : List ℕ
  parts = filled formula_size (formula_parts queries) v.formula

  module _ (q : ℕ) (l : q < c.formulas) where
    there : q < length queries
    there = let e = list_of-length c.formulas (formula_in c t.formula) in omega arith

    few : length queries ≤ 16
    few =
        let e = list_of-length c.formulas (formula_in c t.formula) in
        let n = (sound-formulas c _ _ _ is-sound).1 in
        omega arith

    -- the nodes of query q are those of the table
    query-nodes : nodes (get_or queries q Formula.truth) ≡ nodes_of c.nodes t.formula q
    query-nodes =
        ap nodes (list_of-at c.formulas (formula_in c t.formula) q Formula.truth l)
        ∙ formula-nodes c.atoms c.nodes t.formula q (sound-each c _ _ _ is-sound q l)

    count-few : get_or c.nodes q 0 ≤ part_size
    count-few = formula-few c.atoms c.nodes t.formula q (sound-each c _ _ _ is-sound q l)

    nodes-count : length (nodes_of c.nodes t.formula q) ≡ get_or c.nodes q 0
    nodes-count =
        let n = (sound-formulas c _ _ _ is-sound).1 in
        let full = long.formula-long in
        let m = count-few in
        nodes-length c.nodes t.formula q (omega arith)

    count-used : get_or counts q 0 ≡ get_or c.nodes q 0
    count-used = count-is queries few q there ∙ ap length query-nodes ∙ nodes-count

    formula-used : nodes_of counts parts q ≡ nodes_of c.nodes t.formula q
    formula-used =
        formula-is queries few q there v.formula room.formula-long
        (rw (query-nodes, nodes-count) count-few) ∙ query-nodes

  -- Prices

  abbrev filled-prices : List ℕ
  filled-prices = filled price_size (prices_of (costs_in t.prices c.atoms)) v.prices

  price-used : (a : ℕ) → a < c.atoms → get_or filled-prices a 0 ≡ get_or t.prices a 0
  price-used a l =
      let n = atoms-few in
      price-at (costs_in t.prices c.atoms) v.prices room.prices-long a (omega arith)
      ∙ costs-price t.prices c.atoms a l

  -- both tables have a price for each atom
  filled-count : length (take c.atoms filled-prices) ≡ c.atoms
  filled-count =
      let n = atoms-few in
      let full = room.prices-long in
      let e = filled-length price_size (prices_of (costs_in t.prices c.atoms)) v.prices in
      length-take-le c.atoms filled-prices (omega arith)

  price-count : length (take c.atoms t.prices) ≡ c.atoms
  price-count =
      let n = atoms-few in
      let full = long.prices-long in
      length-take-le c.atoms t.prices (omega arith)

  prices-used : take c.atoms filled-prices ≡ take c.atoms t.prices
  prices-used =
      let e = filled-count in
      ext_get_or 0 (take c.atoms filled-prices) (take c.atoms t.prices) (filled-count ∙ sym price-count)
      (λ i l.
      get_or-take c.atoms filled-prices i 0 (omega arith) ∙ price-used i (omega arith)
      ∙ sym (get_or-take c.atoms t.prices i 0 (omega arith)))

  -- All of it

  pub same-used : SameUsed c t (case_said (said_of c t)) (filled_with (words_of (said_of c t)) v)
  same-used = record {
    atoms_are = list_of-length c.atoms (name_in t.names);
    clause-count-is = list_of-length c.clauses (clause_in t.clauses);
    constraint-count-is = list_of-length c.constraints (constraint_in t.constraints);
    formula-count-is = list_of-length c.formulas (formula_in c t.formula);
    plain-is = refl;
    negated-is = refl;
    edition-is = edition-back c.edition (sound-edition c _ _ _ is-sound);
    node-counts_are = count-used;
    clauses_are = clauses-used;
    constraints_are = constraints-used;
    formulas_are = formula-used;
    names_are = names-used;
    prices_are = prices-used;
  }

pub said-used : (c : Case) (t v : Lent) → writable c t ≡ true → tables_fit t ≡ true → tables_fit v ≡ true
    → SameUsed c t (case_said (said_of c t)) (filled_with (words_of (said_of c t)) v)
said-used c t v h k l = same-used c t v h (fit_long t k) (fit_long v l)
