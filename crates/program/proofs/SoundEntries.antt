-- What is known of the words of a sound case, and of the entries of its tables.
--
--   ClauseSound n first p q    a clause by its three words: its head is one of n atoms, and its shape its kind's
--   ConstraintSound n p q k    a constraint by its two words and its kind: it has a literal, and its kind is 0 or 1
-- Assumes nothing.
use mathlib.Core.Path.{◌≡◌}
use mathlib.Core.Bool.{true, false, not, ◌&&◌}
use mathlib.Core.List.{List}
use Prim.Native.Nat.{ℕ, ◌/◌, ◌%◌, ◌^◌, ◌<◌}
use lib.Dec.{ltb}
use borrow.Author.Tests.{ltb-true, not-true}
use Rattle.words.proofs.Tests.{and_true_l, and_true_r}
use Rattle.words.proofs.Below.{every-at}
use Rattle.program.specs.declared.case.Case.{Case}
use Rattle.program.specs.Sound.{within, bare, shaped, sound_clause, sound_clauses, sound_constraint}
use Rattle.program.specs.Sound.{sound_constraints, sound}
use Rattle.program.proofs.Soundness.{clause_test, constraint_test, sound-clause-table, sound-constraint-table}

pub within-below : (n p q : ℕ) → within n p q ≡ true → (p < 2 ^ n) × (q < 2 ^ n)
unfolding within
within-below n p q h = (
  ltb-true p (2 ^ n) (and_true_l (ltb p (2 ^ n)) (ltb q (2 ^ n)) h),
  ltb-true q (2 ^ n) (and_true_r (ltb p (2 ^ n)) (ltb q (2 ^ n)) h),
)

pub record ClauseSound (n first p q : ℕ) : Type 0 where
  pub head-lt : first % 64 < n
  pub inside : within n p q ≡ true
  pub shape : shaped (first / 64) (bare p q) ≡ true

pub clause-sound : (n first p q : ℕ) → sound_clause n first p q ≡ true → ClauseSound n first p q
unfolding sound_clause
clause-sound n first p q h =
    let front = and_true_l (ltb (first % 64) n && within n p q) (shaped (first / 64) (bare p q)) h in
    record {
      head-lt = ltb-true (first % 64) n (and_true_l (ltb (first % 64) n) (within n p q) front);
      inside = and_true_r (ltb (first % 64) n) (within n p q) front;
      shape = and_true_r (ltb (first % 64) n && within n p q) (shaped (first / 64) (bare p q)) h;
    }

pub record ConstraintSound (n p q k : ℕ) : Type 0 where
  pub inside : within n p q ≡ true
  pub some : bare p q ≡ false
  pub kind-lt : k < 2

pub constraint-sound : (n p q k : ℕ) → sound_constraint n p q k ≡ true → ConstraintSound n p q k
unfolding sound_constraint
constraint-sound n p q k h =
    let front = and_true_l (within n p q && not (bare p q)) (ltb k 2) h in
    record {
      inside = and_true_l (within n p q) (not (bare p q)) front;
      some = not-true (bare p q) (and_true_r (within n p q) (not (bare p q)) front);
      kind-lt = ltb-true k 2 (and_true_r (within n p q && not (bare p q)) (ltb k 2) h);
    }

-- each entry of a sound case's tables passes its test
module _ (c : Case) (cl co fo : List ℕ) (h : sound c cl co fo ≡ true) where
  pub each-clause-sound : (k : ℕ) → k < c.clauses → clause_test c.atoms cl k ≡ true
  unfolding sound_clauses
  each-clause-sound = every-at c.clauses (clause_test c.atoms cl) (sound-clause-table c cl co fo h)

  pub each-constraint-sound : (k : ℕ) → k < c.constraints → constraint_test c.atoms co k ≡ true
  unfolding sound_constraints
  each-constraint-sound =
      every-at c.constraints (constraint_test c.atoms co) (sound-constraint-table c cl co fo h)
