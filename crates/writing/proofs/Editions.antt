-- Laws of the edition lines of a case: there is one at most, it is of an edition, and they give the edition back.
-- Assumes nothing.
use mathlib.Core.Path.{◌≡◌, refl}
use mathlib.Core.Bool.{Bool, true, false}
use mathlib.Core.List.{[]}
use Prim.Native.Nat.{ℕ, zero, suc, ◌≤◌}
use native.Mathlib.Omega.{arith}
use lib.Dec.{eqb, leb}
use borrow.Author.Tests.{leb-true}
use Rattle.words.specs.Choice.{cons_if}
use Rattle.words.proofs.Tests.{and_true_l, and_true_r}
use Rattle.program.proofs.Atoms.{cons_few}
use Rattle.text.proofs.Each.{Each}
use Rattle.store.specs.Saying.{last_or, edition_of}
use Rattle.reader.proofs.WellFormed.{Rows, IsEdition}
use Rattle.writing.specs.Used.{editions_in}

-- what holds of the editions 1 and 2 holds of each
pub by_edition : (P : ℕ → Type 0) → P 1 → P 2 → (e : ℕ) → IsEdition e → P e
by_edition P one two e h = go e (leb-true 1 e (and_true_l _ _ h)) (leb-true e 2 (and_true_r (leb 1 e) _ h))
  where
    go : (i : ℕ) → 1 ≤ i → i ≤ 2 → P i
    go zero a b = absurd (omega arith)
    go (suc zero) a b = one
    go (suc (suc zero)) a b = two
    go (suc (suc (suc i))) a b = absurd (omega arith)

one-edition : (b : Bool) → Each IsEdition (cons_if b 2 [])
one-edition true = (refl, tt)
one-edition false = tt

pub editions-formed : (e : ℕ) → Rows IsEdition 1 (editions_in e)
editions-formed e = record { few = cons_few (eqb e 2) 2 0 [] (omega arith); each = one-edition (eqb e 2) }

pub edition-back : (e : ℕ) → IsEdition e → edition_of (editions_in e) ≡ e
unfolding last_or
edition-back = by_edition (λ e. edition_of (editions_in e) ≡ e) refl refl
