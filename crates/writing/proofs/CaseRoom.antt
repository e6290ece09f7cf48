-- The text of a writable case has room: its lines are few, and each of them is short.
--
--   writable-sound       a writable case is sound
--   formula-nodes        the nodes of a sound formula are those that spell it
--   nodes-few            they are at most 128
--   case-room            the text of a writable case ends far below the limit of places
-- Assumes nothing.
use mathlib.Core.Path.{◌≡◌}
use mathlib.Core.Bool.{true}
use mathlib.Core.List.{List, [], map}
use Prim.Native.Nat.{ℕ, zero, suc, ◌*◌, ◌≤◌}
use native.Mathlib.Omega.{arith}
use lib.Dec.{ltb}
use lib.ListN.{length, get_or, drop, length-append, length-take}
use Rattle.words.specs.Below.{every}
use Rattle.words.specs.Choice.{cons_if}
use Rattle.words.proofs.Lists.{list_of-length}
use Rattle.words.proofs.Tests.{and_true_l}
use Rattle.logic.specs.Nodes.{nodes, formula_of}
use Rattle.logic.proofs.Spelled.{one-formula-accepted}
use Rattle.program.specs.declared.case.Case.{Case}
use Rattle.program.specs.Case.{part_size, nodes_of}
use Rattle.program.specs.Sound.{sound_formula, sound}
use Rattle.program.proofs.Soundness.{formula-few, formula-one, sound-atoms, sound-clauses, sound-constraints}
use Rattle.program.proofs.Soundness.{sound-formulas, sound-each}
use Rattle.program.proofs.Atoms.{cons_few}
use Rattle.text.proofs.Spelled.{text_bound}
use Rattle.grammar.specs.Line.{Line}
use Rattle.names.specs.Row.{name_in}
use Rattle.names.proofs.RowNames.{name-short}
use Rattle.store.specs.Lent.{Lent}
use Rattle.store.specs.Saying.{Said}
use Rattle.reader.specs.Operation.{tables_fit}
use Rattle.reader.proofs.WellFormed.{Rows}
use Rattle.output.specs.Writing.{Room}
use Rattle.writing.specs.Lines.{literals_for, clause_line, constraint_line, query_line, cost_line, lines_of, line_text}
use Rattle.writing.specs.Used.{clause_in, constraint_in, formula_in, cost_of, costs_in, said_of}
use Rattle.writing.specs.Operation.{is_writable_atom, writable, case_lines, case_text}
use Rattle.writing.proofs.Editions.{editions-formed}
use Rattle.writing.proofs.Rows.{rows-map, rows_append, rows_all, rows_gives, rows_list_of}
use Rattle.writing.proofs.LineSizes.{ShortLine, SmallFormula, literals-small, atom-short, edition-short}
use Rattle.writing.proofs.LineSizes.{clause-short, constraint-short, seen-short, query-short, cost-short}

-- ---- formulas
module _ (n : ℕ) (ns fo : List ℕ) (q : ℕ) (h : sound_formula n ns fo q ≡ true) where
  pub formula-nodes : nodes (formula_of (nodes_of ns fo q)) ≡ nodes_of ns fo q
  formula-nodes = (one-formula-accepted n (nodes_of ns fo q) (formula-one n ns fo q h)).nodes_are

  pub nodes-few : length (nodes (formula_of (nodes_of ns fo q))) ≤ part_size
  unfolding nodes_of
  nodes-few =
      let few = formula-few n ns fo q h in
      rw formula-nodes (omega (arith, length-take (get_or ns q 0) (drop (part_size * q) fo)))

-- ---- costs
costs-few : (pr : List ℕ) (n : ℕ) → length (costs_in pr n) ≤ n
unfolding costs_in
costs-few pr zero = omega arith
costs-few pr (suc a) =
    let one = cons_if (ltb 0 (get_or pr a 0)) (cost_of pr a) [] in
    omega (
      arith,
      length-append (costs_in pr a) one,
      costs-few pr a,
      cons_few (ltb 0 (get_or pr a 0)) (cost_of pr a) 0 [] (omega arith),
    )

-- ---- the lines of what st says
-- what st says is within the limits
record Limited (st : Said) : Type 0 where
  names : Rows (λ w. length w ≤ 16) 64 st.names
  clauses : length st.clauses ≤ 256
  constraints : length st.constraints ≤ 32
  queries : Rows SmallFormula 16 st.queries
  costs : length st.costs ≤ 64
  editions : length st.editions ≤ 1

module _ (name : ℕ → List ℕ) (short : (a : ℕ) → length (name a) ≤ 16) (st : Said) (h : Limited st) where
  abbrev Short : ℕ → List Line → Type 0
  Short n l = Rows ShortLine n l

  atom-rows : Short 64 (map Line.atom st.names)
  atom-rows = rows-map ShortLine Line.atom 64 st.names (rows_gives _ _ atom-short 64 st.names h.names)

  edition-rows : Short 1 (map Line.edition st.editions)
  edition-rows =
      rows-map ShortLine Line.edition 1 st.editions (rows_all _ edition-short 1 st.editions h.editions)

  clause-rows : Short 256 (map (clause_line name) st.clauses)
  clause-rows =
      rows-map ShortLine (clause_line name) 256 st.clauses
      (rows_all _ (clause-short name short) 256 st.clauses h.clauses)

  constraint-rows : Short 32 (map (constraint_line name) st.constraints)
  constraint-rows =
      rows-map ShortLine (constraint_line name) 32 st.constraints
      (rows_all _ (constraint-short name short) 32 st.constraints h.constraints)

  seen-rows : Short 128 (map Line.seen (literals_for name st.plain st.negated))
  seen-rows =
      let ls = literals_for name st.plain st.negated in
      rows-map ShortLine Line.seen 128 ls
      (rows_gives _ _ seen-short 128 ls (literals-small name short st.plain st.negated))

  query-rows : Short 16 (map (query_line name) st.queries)
  query-rows =
      rows-map ShortLine (query_line name) 16 st.queries
      (rows_gives _ _ (query-short name short) 16 st.queries h.queries)

  cost-rows : Short 64 (map (cost_line name) st.costs)
  cost-rows =
      rows-map ShortLine (cost_line name) 64 st.costs
      (rows_all _ (cost-short name short) 64 st.costs h.costs)

  line-rows : Short 561 (lines_of name st)
  line-rows =
      rows_append ShortLine 64 497 _ _ atom-rows
      (rows_append ShortLine 1 496 _ _ edition-rows
      (rows_append ShortLine 256 240 _ _ clause-rows
      (rows_append ShortLine 32 208 _ _ constraint-rows
      (rows_append ShortLine 128 80 _ _ seen-rows (rows_append ShortLine 16 64 _ _ query-rows cost-rows)))))

-- ---- the case
module _ (c : Case) (t : Lent) (h : writable c t ≡ true) where
  pub writable-sound : sound c t.clauses t.constraints t.formula ≡ true
  unfolding writable
  writable-sound =
      and_true_l (sound c t.clauses t.constraints t.formula)
      (every c.atoms (is_writable_atom t.names t.prices)) h

  said_limited : Limited (said_of c t)
  said_limited =
      let s = writable-sound in
      let atoms = (sound-atoms c _ _ _ s).1 in
      let clauses = sound-clauses c _ _ _ s in
      let constraints = sound-constraints c _ _ _ s in
      record {
        names = rows_list_of _ 64 c.atoms (name_in t.names) atoms (λ a _. name-short t.names a);
        clauses = omega (arith, list_of-length c.clauses (clause_in t.clauses));
        constraints = omega (arith, list_of-length c.constraints (constraint_in t.constraints));
        queries =
            rows_list_of SmallFormula 16 c.formulas (formula_in c t.formula) (sound-formulas c _ _ _ s).1
            (λ q l. nodes-few c.atoms c.nodes t.formula q (sound-each c _ _ _ s q l));
        costs = omega (arith, costs-few t.prices c.atoms);
        editions = (editions-formed c.edition).few;
      }

  case-lines : Rows (λ l. length l ≤ 12600) 561 (case_lines c t)
  case-lines =
      rows-map _ line_text 561 (lines_of (name_in t.names) (said_of c t))
      (line-rows (name_in t.names) (name-short t.names) (said_of c t) said_limited)

pub case-room : (c : Case) (t : Lent) → tables_fit t ≡ true → writable c t ≡ true → Room (case_text c t) 0
case-room c t _ h =
    let lines = case-lines c t h in
    record { fits = omega (arith, text_bound 12600 (case_lines c t) lines.each, lines.few) }
