-- What is known of an atom of a writable case: its row is a name and zeros and differs from those before it, and its
-- price is at most 2,000,000. Assumes nothing.
use mathlib.Core.Path.{◌≡◌, sym, ap, ◌∙◌}
use mathlib.Core.Bool.{Bool, true, false, not, ◌&&◌, false≢true}
use Prim.Native.Nat.{ℕ, ◌≤◌, ◌<◌}
use lib.Dec.{leb}
use lib.ListN.{get_or}
use borrow.Author.Tests.{leb-true, not-true}
use Rattle.words.specs.Below.{every}
use Rattle.words.proofs.Below.{any_false, every-at}
use Rattle.words.proofs.Tests.{and_true_l, and_true_r}
use Rattle.program.specs.declared.case.Case.{Case}
use Rattle.program.specs.Sound.{sound}
use Rattle.text.specs.Bytes.{same_bytes}
use Rattle.text.proofs.Same.{same_refl, same-eq}
use Rattle.table.specs.Filled.{padded}
use Rattle.names.specs.Row.{row_at, name_in}
use Rattle.store.specs.Lent.{Lent}
use Rattle.checks.specs.Naming.{is_name, IsName}
use Rattle.writing.specs.Operation.{is_name_row, is_repeated, is_writable_atom, writable}

pub writable-atom : (c : Case) (t : Lent) → writable c t ≡ true → (a : ℕ) → a < c.atoms
    → is_writable_atom t.names t.prices a ≡ true
unfolding writable
writable-atom c t h =
    every-at c.atoms (is_writable_atom t.names t.prices)
    (and_true_r (sound c t.clauses t.constraints t.formula)
    (every c.atoms (is_writable_atom t.names t.prices)) h)

module _ (t : Lent) (a : ℕ) (h : is_writable_atom t.names t.prices a ≡ true) where
  abbrev price-test : Bool
  price-test = leb (get_or t.prices a 0) 2000000

  abbrev row_tests : Bool
  row_tests = is_name_row t.names a && not (is_repeated t.names a)

  name-row : is_name_row t.names a ≡ true
  unfolding is_writable_atom
  name-row = and_true_l (is_name_row t.names a) (not (is_repeated t.names a)) (and_true_l row_tests price-test h)

  not_repeated : is_repeated t.names a ≡ false
  unfolding is_writable_atom
  not_repeated =
      not-true (is_repeated t.names a)
      (and_true_r (is_name_row t.names a) (not (is_repeated t.names a)) (and_true_l row_tests price-test h))

  pub price-few : get_or t.prices a 0 ≤ 2000000
  unfolding is_writable_atom
  price-few = leb-true (get_or t.prices a 0) 2000000 (and_true_r row_tests price-test h)

  pub atom-name : IsName (name_in t.names a)
  unfolding is_name_row
  atom-name =
      and_true_l (is_name (name_in t.names a)) (same_bytes (row_at t.names a) (padded 16 (name_in t.names a)))
      name-row

  pub atom-row : row_at t.names a ≡ padded 16 (name_in t.names a)
  unfolding is_name_row
  atom-row =
      same-eq (row_at t.names a) (padded 16 (name_in t.names a))
      (and_true_r (is_name (name_in t.names a))
      (same_bytes (row_at t.names a) (padded 16 (name_in t.names a))) name-row)

  -- no row before it is the same
  pub row_fresh : (b : ℕ) → b < a → row_at t.names b ≡ row_at t.names a → ⊥
  unfolding is_repeated
  row_fresh b l e =
      let same = ap (λ r. same_bytes r (row_at t.names a)) e ∙ same_refl (row_at t.names a) in
      false≢true (sym (any_false a (λ i. same_bytes (row_at t.names i) (row_at t.names a)) not_repeated b l) ∙ same)
