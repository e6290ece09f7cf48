-- The case of an accepted file is one that can be written: its tables fit, it is sound, its names are names and differ,
-- and its prices are low. Assumes nothing.
use mathlib.Core.Path.{◌≡◌, sym, ap, ◌∙◌}
use mathlib.Core.Bool.{true, false}
use mathlib.Core.List.{List, []}
use Prim.Native.Nat.{ℕ, ◌≤◌, ◌<◌}
use native.Mathlib.Omega.{arith}
use lib.ListN.{length, get_or}
use borrow.Author.Tests.{le-leb}
use Rattle.words.proofs.Below.{all-false, every_true}
use Rattle.words.proofs.Tests.{by_test}
use Rattle.text.specs.Bytes.{same_bytes}
use Rattle.text.proofs.Same.{same_refl, same-eq}
use Rattle.table.specs.Filled.{padded}
use Rattle.table.proofs.Filled.{filled-exact, padded-length}
use Rattle.program.specs.Case.{clause_size, constraint_size, formula_size, name_size, price_size}
use Rattle.program.proofs.Soundness.{sound-atoms}
use Rattle.names.specs.Names.{rows_of, atom_of}
use Rattle.names.specs.Row.{row_at}
use Rattle.names.proofs.Held.{same_row}
use Rattle.names.proofs.Rows.{filled_row}
use Rattle.store.specs.Prices.{prices_of}
use Rattle.store.specs.Saying.{Said}
use Rattle.store.specs.Tables.{clause_words, constraint_words, formula_parts, case_said}
use Rattle.reader.specs.Reading.{Outcome, read_file}
use Rattle.reader.specs.Operation.{tables_fit}
use Rattle.reader.proofs.Theorems.{accepted-names}
use Rattle.writing.specs.Operation.{is_name_row, is_repeated, is_writable_atom, writable}
use Rattle.report.specs.Report.{price_table, name_of}
use Rattle.report.proofs.Accepted.{said-sound, said-named, said-table}
use Rattle.report.proofs.Reported.{FullTables, full_fit}
use Rattle.tidying.specs.Text.{tables_said}
use Rattle.tidying.proofs.Priced.{accepted-price}

said-full : (st : Said) → FullTables (tables_said st)
said-full st = record {
  clauses-full = padded-length clause_size (clause_words st.clauses);
  constraints-full = padded-length constraint_size (constraint_words st.constraints);
  formula-full = padded-length formula_size (formula_parts st.queries);
  names-full = padded-length name_size (rows_of st.names);
  prices-full = padded-length price_size (prices_of st.costs);
}

pub said_fit : (st : Said) → tables_fit (tables_said st) ≡ true
said_fit st = full_fit (tables_said st) (said-full st)

-- Names

abbrev name_table : Said → List ℕ
name_table st = padded name_size (rows_of st.names)

row_is : (st : Said) (a : ℕ) → a < 64 → row_at (name_table st) a ≡ padded 16 (name_of st a)
row_is st a h =
    let zeros = padded name_size [] in
    let room = padded-length name_size [] in
    ap (λ (t : List ℕ). row_at t a) (sym (filled-exact name_size (rows_of st.names) zeros room))
    ∙ filled_row st.names zeros a (omega arith) h

not_same : (v w : List ℕ) → (v ≡ w → ⊥) → same_bytes v w ≡ false
not_same v w h = by_test (same_bytes v w) (λ t. absurd (h (same-eq v w t))) (λ e. e)

module _ (f : List ℕ) (st : Said) (e : read_file f ≡ Outcome.case st) where
  atoms-few : length st.names ≤ 64
  atoms-few = (sound-atoms (case_said st) _ _ _ (said-sound f st e)).1

  name-row : (a : ℕ) → a < length st.names → is_name_row (name_table st) a ≡ true
  unfolding is_name_row
  name-row a l =
      let few = atoms-few in
      rw (said-table f st e a (omega arith), row_is st a (omega arith), (accepted-names f st e).are_names a l)
      (same_refl (padded 16 (name_of st a)))

  names-differ : (a b : ℕ) → b < a → a < length st.names → name_of st b ≡ name_of st a → ⊥
  names-differ a b k l q =
      let ns = st.names in
      let differ = (accepted-names f st e).differ in
      let same : b ≡ a = sym (differ b (omega arith)) ∙ ap (atom_of ns) q ∙ differ a l in
      omega arith

  not_repeated : (a : ℕ) → a < length st.names → is_repeated (name_table st) a ≡ false
  unfolding is_repeated
  not_repeated a l =
      let few = atoms-few in
      all-false a _ (λ b k.
      rw (row_is st b (omega arith), row_is st a (omega arith))
      (same_row (said-named f st e b) (said-named f st e a)
      ∙ not_same (name_of st b) (name_of st a) (names-differ a b k l)))

  atom-writable : (a : ℕ) → a < length st.names → is_writable_atom (name_table st) (price_table st) a ≡ true
  unfolding is_writable_atom
  atom-writable a l =
      let few = atoms-few in
      let low = accepted-price f st e a (omega arith) in
      rw (name-row a l, not_repeated a l, le-leb (get_or (price_table st) a 0) 2000000 low)

  pub accepted-writable : writable (case_said st) (tables_said st) ≡ true
  unfolding writable
  accepted-writable =
      let atoms = every_true (length st.names) (is_writable_atom (name_table st) (price_table st)) atom-writable in
      rw (said-sound f st e, atoms)
