-- What holds of the empty program, of each clause alone and of two programs joined holds of every program of a clause
-- table and a set's additions. Assumes nothing.
use mathlib.Core.Path.{◌≡◌, refl}
use mathlib.Core.Bool.{Bool, true, false}
use mathlib.Core.List.{List, [], ◌∷◌, ◌++◌}
use Prim.Native.Nat.{ℕ, zero, suc, ◌<◌}
use native.Mathlib.Omega.{arith}
use Rattle.words.specs.Bits.{has}
use Rattle.logic.specs.Formula.{Formula}
use Rattle.program.specs.declared.cause.Additions.{Additions}
use Rattle.program.specs.Program.{Clause, clause, clause_at, clauses_of, clause_if, added_below, program_with}

module _ (P : List Clause → Type 0) (none : P []) (append : (p q : List Clause) → P p → P q → P (p ++ q)) where
  clauses-all : (cl : List ℕ) (n : ℕ) → ((k : ℕ) → k < n → P (clause_at cl k ∷ [])) → P (clauses_of cl n)
  unfolding clauses_of
  clauses-all cl zero h = none
  clauses-all cl (suc k) h =
      append (clauses_of cl k) (clause_at cl k ∷ []) (clauses-all cl k (λ j l. h j (omega arith))) (h k (omega arith))

  clause_if-all : (t : Bool) (c : Clause) → (t ≡ true → P (c ∷ [])) → P (clause_if t c)
  clause_if-all true c h = h refl
  clause_if-all false c h = none

  -- the clauses that a set adds
  module _ (x : Additions) (facts : (a : ℕ) → has x.facts a ≡ true → P (clause a Formula.truth ∷ []))
      (assumptions : (a : ℕ) → has x.assumptions a ≡ true → P (clause a Formula.falsity ∷ [])) where
    added_all : (n : ℕ) → P (added_below x n)
    unfolding added_below
    added_all zero = none
    added_all (suc a) =
        append (added_below x a) _ (added_all a)
        (append _ _
        (clause_if-all (has x.facts a) (clause a Formula.truth) (facts a))
        (clause_if-all (has x.assumptions a) (clause a Formula.falsity) (assumptions a)))

    pub program-all : (cl : List ℕ) (n : ℕ) → ((k : ℕ) → k < n → P (clause_at cl k ∷ [])) → P (program_with cl n x)
    program-all cl n h = append (clauses_of cl n) (added_below x 64) (clauses-all cl n h) (added_all 64)
