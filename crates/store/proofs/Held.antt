-- Tables that hold what was read hold it with one clause, constraint, reading, query, cost or edition more, and with
-- a line's names.
-- Assumes nothing.
use mathlib.Core.Path.{◌≡◌, refl, ap, subst, ◌∙◌}
use mathlib.Core.List.{List, [], ◌∷◌, map-append}
use mathlib.Core.Bool.{false}
use Prim.Native.Nat.{ℕ, ◌≤◌, ◌<◌}
use native.Mathlib.Omega.{arith}
use lib.ListN.{length, length-append, length-map}
use Rattle.logic.specs.Formula.{Formula}
use Rattle.logic.specs.Nodes.{nodes}
use Rattle.program.specs.declared.case.Case.{Case}
use Rattle.program.specs.Case.{clause_size, constraint_size, formula_size, part_size, name_size, price_size}
use Rattle.text.specs.Numbers.{number_of}
use Rattle.text.proofs.Each.{Each, each_gives}
use Rattle.text.proofs.Places.{place-name}
use Rattle.table.specs.Filled.{filled, padded}
use Rattle.table.proofs.Filled.{padded_push}
use Rattle.table.proofs.Rows.{row_stored}
use Rattle.formulas.specs.Sentence.{Sentence, sentence_names}
use Rattle.formulas.specs.Parsing.{size_of}
use Rattle.grammar.specs.Line.{Literal, body_names}
use Rattle.names.specs.Names.{atom_of, with_names, rows_of}
use Rattle.names.specs.Row.{row_of}
use Rattle.names.specs.Held.{Named, Holds}
use Rattle.names.proofs.Adding.{with_names-length, each-found}
use Rattle.names.proofs.Held.{row-atom, all-named-at}
use Rattle.names.proofs.Interning.{LineInterned}
use Rattle.store.specs.declared.masks.Masks.{Masks}
use Rattle.store.specs.Lent.{Lent, lent}
use Rattle.store.specs.Prices.{CostRow, price_of, has_cost, prices_of}
use Rattle.store.specs.Saying.{Said, said, ClauseRow, ConstraintRow, encoded_by, encoded, clause_row, constraint_row}
use Rattle.store.specs.Saying.{cost_row, renamed, with_clause, with_constraint, with_observed, with_query, with_cost}
use Rattle.store.specs.Saying.{with_edition}
use Rattle.store.specs.Tables.{case_with, clause_words, constraint_words, formula_parts, node_counts}
use Rattle.store.specs.Held.{Long, Limits, InLimits, Held}
use Rattle.store.specs.Masks.{masks_by}
use Rattle.store.specs.Stored.{ClauseStored, ConstraintStored, ObservedStored, with_price, of_edition}
use Rattle.store.proofs.FilledLent.{lent_same}
use Rattle.store.proofs.Saying.{last_push}
use Rattle.store.proofs.Formulas.{over-some}
use Rattle.store.proofs.Encoded.{Known, encoded-over, encoded-length}
use Rattle.store.proofs.Lookups.{Agree, masks-same, encoded-same}
use Rattle.store.proofs.NodeLaws.{FormulaPut}
use Rattle.store.proofs.Prices.{price_stored}
use Rattle.store.proofs.Rows.{clause_row_words, constraint_row_words, clause-rows, constraint-rows, formula-rows}

-- c with a number of atoms
abbrev pub with_atom_count : Case → ℕ → Case
with_atom_count c n =
    case_with n c.clauses c.constraints c.formulas c.plain c.negated c.nodes c.edition

-- The limits

module _ (st : Said) (h : Limits st) where
  limits_as : {ns : List (List ℕ)} {cs : List ClauseRow} {ds : List ConstraintRow} {p q : ℕ}
      {ks : List CostRow} {es : List ℕ} → length cs ≤ 256
      → length ds ≤ 32 → length st.names ≤ length ns → Limits (said ns cs ds p q st.queries ks es)
  limits_as i j k = record {
    clauses-few = i;
    constraints-few = j;
    queries-few = h.queries-few;
    query-atoms = λ s. omega (arith, h.query-atoms s);
  }

  query-limits : (f : Formula) → length st.queries < 16 → 1 ≤ length st.names → Limits (with_query st f)
  query-limits f room a = record {
    clauses-few = h.clauses-few;
    constraints-few = h.constraints-few;
    queries-few = omega (arith, length-append st.queries (f ∷ []));
    query-atoms = λ _. a;
  }

-- The record c and the tables t hold st

module _ (st : Said) (c : Case) (t : Lent) (h : Held st c t) where
  pub held_in_limits : InLimits c
  held_in_limits = rw h.case-is (record {
    atoms-few = h.few-names;
    clauses-few = h.limits.clauses-few;
    constraints-few = h.limits.constraints-few;
    formulas-few = h.limits.queries-few;
  })

  clauses-held : t.clauses ≡ filled clause_size (clause_words st.clauses) t.clauses
  clauses-held = ap (λ (x : Lent). x.clauses) h.tables_are

  constraints-held : t.constraints ≡ filled constraint_size (constraint_words st.constraints) t.constraints
  constraints-held = ap (λ (x : Lent). x.constraints) h.tables_are

  formula-held : t.formula ≡ filled formula_size (formula_parts st.queries) t.formula
  formula-held = ap (λ (x : Lent). x.formula) h.tables_are

  rows-held : t.names ≡ filled name_size (rows_of st.names) t.names
  rows-held = ap (λ (x : Lent). x.names) h.tables_are

  prices-held : t.prices ≡ filled price_size (prices_of st.costs) t.prices
  prices-held = ap (λ (x : Lent). x.prices) h.tables_are

  pub names-held : Holds st.names t.names
  names-held = record { all_named = h.all_named; few = h.few-names; table_is = rows-held }

  -- with the names ws of a line, n names in all in the table u
  pub named-held : (ws : List (List ℕ)) (n : ℕ) (u : List ℕ) → LineInterned st.names ws n u → n ≤ 64
      → Held (renamed (with_names st.names ws) st) (with_atom_count c n)
      (lent t.clauses t.constraints t.formula u t.prices)
  named-held ws n u i k =
      let l = h.limits in
      let m = i.held k in
      record {
        limits = limits_as st l l.clauses-few l.constraints-few (with_names-length st.names ws);
        case-is = rw (h.case-is, i.fits k);
        all_named = m.all_named;
        few-names = m.few;
        tables_are = lent_same clauses-held constraints-held formula-held m.table_is prices-held;
      }

  -- with an edition
  pub edition-held : (e : ℕ) → Held (with_edition st e) (of_edition c e) t
  edition-held e =
      let l = h.limits in
      record {
        limits = limits_as st l l.clauses-few l.constraints-few (omega arith);
        case-is = rw (h.case-is, last_push 1 st.editions e);
        all_named = h.all_named;
        few-names = h.few-names;
        tables_are = h.tables_are;
      }

  module _ (long : Long t) where
    -- names that are known are found in the rows by their numbers
    known-agree : (w : List ℕ) → Known st.names w → Agree (row_of t.names c.atoms) (atom_of st.names) w
    known-agree w k =
        let named = subst Named (place-name st.names w k) (all-named-at h.all_named _ k) in
        rw h.case-is (row-atom names-held long.names-long named)

    module _ (ws : List (List ℕ)) (known : with_names st.names ws ≡ st.names) where
      pub each-known : Each (Known st.names) ws
      each-known = rw known at (each-found st.names ws)

      pub each-agree : Each (Agree (row_of t.names c.atoms) (atom_of st.names)) ws
      each-agree = each_gives (Known st.names) _ known-agree ws each-known

    -- the masks m are those of the literals ls
    module _ (ls : List Literal) {m : Masks} (e : m ≡ masks_by (row_of t.names c.atoms) ls) where
      masks_are : Each (Agree (row_of t.names c.atoms) (atom_of st.names)) (body_names ls)
          → m ≡ masks_by (atom_of st.names) ls
      masks_are k = e ∙ masks-same _ (atom_of st.names) ls k

      pub clause-held : (kind : ℕ) (w : List ℕ) {r : Case} {u : List ℕ}
          → with_names st.names (w ∷ body_names ls) ≡ st.names → c.clauses < 256
          → ClauseStored w kind m c t.names t.clauses r u
          → Held (with_clause st (clause_row st.names kind w ls)) r
          (lent u t.constraints t.formula t.names t.prices)
      unfolding padded
      clause-held kind w known room s =
          let row = clause_row st.names kind w ls in
          let a = each-agree (w ∷ body_names ls) known in
          let n = length-append st.clauses (row ∷ []) in
          let room' : length st.clauses < 256 = rw h.case-is at room in
          let words =
          row_stored clause-rows clause_size st.clauses row (clause_row_words row) t.clauses refl (omega arith)
          (omega arith) long.clauses-long clauses-held in
          record {
            limits = limits_as st h.limits (omega arith) h.limits.constraints-few (omega arith);
            case-is = s.counted ∙ rw (h.case-is, n);
            all_named = h.all_named;
            few-names = h.few-names;
            tables_are =
                lent_same (rw (s.table_is, a.0, masks_are a.1, h.case-is) words) constraints-held formula-held
                rows-held prices-held;
          }

      module _ (known : with_names st.names (body_names ls) ≡ st.names) where
        pub constraint-held : (kind : ℕ) {r : Case} {u : List ℕ} → c.constraints < 32
            → ConstraintStored m kind c t.constraints r u
            → Held (with_constraint st (constraint_row st.names kind ls)) r
            (lent t.clauses u t.formula t.names t.prices)
        unfolding padded
        constraint-held kind room s =
            let row = constraint_row st.names kind ls in
            let a = masks_are (each-agree (body_names ls) known) in
            let n = length-append st.constraints (row ∷ []) in
            let room' : length st.constraints < 32 = rw h.case-is at room in
            let words =
            row_stored constraint-rows constraint_size st.constraints row (constraint_row_words row) t.constraints
            refl (omega arith) (omega arith) long.constraints-long constraints-held in
            record {
              limits = limits_as st h.limits h.limits.clauses-few (omega arith) (omega arith);
              case-is = s.counted ∙ rw (h.case-is, n);
              all_named = h.all_named;
              few-names = h.few-names;
              tables_are =
                  lent_same clauses-held (rw (s.table_is, a, h.case-is) words) formula-held rows-held prices-held;
            }

        pub observed-held : {r : Case} → ObservedStored m c r → Held (with_observed st ls) r t
        observed-held s = record {
          limits =
              limits_as st h.limits h.limits.clauses-few h.limits.constraints-few (omega arith);
          case-is = s ∙ rw (masks_are (each-agree (body_names ls) known), h.case-is);
          all_named = h.all_named;
          few-names = h.few-names;
          tables_are = h.tables_are;
        }

    module _ (f : Sentence) (known : with_names st.names (sentence_names f) ≡ st.names) where
      abbrev g : Formula
      g = encoded st.names f

      pub query-held : {r : Case} {u : List ℕ} → c.formulas < 16 → size_of f ≤ part_size
          → FormulaPut (encoded_by (row_of t.names c.atoms) f) c t.formula r u
          → Held (with_query st g) r (lent t.clauses t.constraints u t.names t.prices)
      query-held {r} {u} room small p =
          let s : FormulaPut g c t.formula r u =
          rw (encoded-same _ (atom_of st.names) f (each-agree (sentence_names f) known)) at p in
          let few = encoded-length (atom_of st.names) f in
          let room' : length st.queries < 16 = rw h.case-is at room in
          let n = length-append st.queries (g ∷ []) in
          let counts = padded_push 16 (node_counts st.queries) (length (nodes g)) (rw length-map room') in
          let atoms = over-some _ g (encoded-over (atom_of st.names) _ f (each-known (sentence_names f) known)) in
          let words =
          row_stored formula-rows formula_size st.queries g (nodes g) t.formula refl (omega arith) (omega arith)
          long.formula-long formula-held in
          record {
            limits = query-limits st h.limits g room' atoms;
            case-is = s.counted ∙ rw (h.case-is, n, map-append, ← counts, length-map);
            all_named = h.all_named;
            few-names = h.few-names;
            tables_are =
                lent_same clauses-held constraints-held (rw (s.table_is, h.case-is) words) rows-held prices-held;
          }

    -- with the price of the atom named w
    pub cost-held : (w p s : List ℕ) {u : List ℕ} → with_names st.names (w ∷ []) ≡ st.names
        → has_cost st.costs (atom_of st.names w) ≡ false
        → u ≡ with_price t.prices (row_of t.names c.atoms w) (price_of (number_of p) (number_of s))
        → Held (with_cost st (cost_row st.names w p s)) c
        (lent t.clauses t.constraints t.formula t.names u)
    cost-held w p s known fresh e =
        let k = (each-known (w ∷ []) known).0 in
        let few = h.few-names in
        let stored =
        price_stored st.costs t.prices long.prices-long prices-held (atom_of st.names w)
        (price_of (number_of p) (number_of s)) (omega arith) fresh in
        record {
          limits =
              limits_as st h.limits h.limits.clauses-few h.limits.constraints-few (omega arith);
          case-is = h.case-is;
          all_named = h.all_named;
          few-names = h.few-names;
          tables_are =
              lent_same clauses-held constraints-held formula-held rows-held
              (rw (e, (each-agree (w ∷ []) known).0) stored);
        }
