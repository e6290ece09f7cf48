-- Steady programs, whose step keeps the order of information; every program of a clause table and a set's additions is
-- one. Assumes nothing.
use mathlib.Core.Path.{◌≡◌}
use mathlib.Core.Bool.{Bool, true, false}
use mathlib.Core.List.{List, [], ◌∷◌, ◌++◌}
use mathlib.Core.Logic.{⊎_elim}
use Prim.Native.Nat.{ℕ, zero, suc, ◌≤◌, ◌<◌}
use lib.Dec.{eqb}
use Rattle.words.specs.Choice.{cons_if}
use Rattle.words.proofs.Tests.{lt-or-le, true_or_false}
use Rattle.logic.specs.declared.value.Value.{Value}
use Rattle.logic.specs.declared.interpretation.Interpretation.{Interpretation}
use Rattle.logic.specs.Formula.{Formula, value_of, any_of}
use Rattle.logic.specs.Interpretation.{value_at}
use Rattle.logic.specs.Order.{Leq, Contained}
use Rattle.logic.proofs.Order.{leq_refl, leq_unknown, greater_mono}
use Rattle.logic.proofs.Bodies.{body_mono}
use Rattle.logic.proofs.Interpretations.{values_at, values_above}
use Rattle.program.specs.declared.cause.Additions.{Additions}
use Rattle.program.specs.Case.{kind_at, plain_at, negated_at}
use Rattle.program.specs.Program.{Clause, clause, by_kind, clause_at, program_with}
use Rattle.settle.specs.Step.{bodies_of, has_some, next_value, step}
use Rattle.settle.proofs.Given.{bodies_append, any_append, given-some, given-none}
use Rattle.settle.proofs.Programs.{program-all}

-- the value of f keeps the order of information
abbrev pub Rises : Formula → Type 0
Rises f = (v w : ℕ → Value) → Contained v w → Leq (value_of v f) (value_of w f)

-- the "or" of each atom's bodies does
abbrev pub Steady : List Clause → Type 0
Steady p = (a : ℕ) → Rises (any_of (bodies_of p a))

-- ---- the step of a steady program
module _ (p : List Clause) (s : Steady p) where
  pub next_mono : (v w : ℕ → Value) → Contained v w → (a : ℕ) → Leq (next_value p v a) (next_value p w a)
  unfolding next_value
  next_mono v w h a =
      ⊎_elim
      (λ (e : has_some (bodies_of p a) ≡ true).
      rw (given-some v (bodies_of p a) e, given-some w (bodies_of p a) e) (s a v w h))
      (λ (e : has_some (bodies_of p a) ≡ false). rw (given-none v (bodies_of p a) e) (leq_unknown _))
      (true_or_false (has_some (bodies_of p a)))

  pub step_mono : (i j : Interpretation) → Contained (value_at i) (value_at j)
      → Contained (value_at (step p i)) (value_at (step p j))
  unfolding step
  step_mono i j h a =
      ⊎_elim
      (λ (l : a < 64). rw (values_at (next_value p (value_at i)) a l, values_at (next_value p (value_at j)) a l)
      (next_mono (value_at i) (value_at j) h a))
      (λ (l : 64 ≤ a). rw (values_above (next_value p (value_at i)) a l) (leq_unknown _))
      (lt-or-le a 64)

-- ---- programs that are steady
steady-none : Steady []
unfolding bodies_of any_of value_of
steady-none a v w h = leq_refl _

steady-append : (p q : List Clause) → Steady p → Steady q → Steady (p ++ q)
steady-append p q s t a v w h =
    rw (bodies_append p q a, any_append v (bodies_of p a) (bodies_of q a), any_append w (bodies_of p a) (bodies_of q a))
    (greater_mono (s a v w h) (t a v w h))

cons_rises : (t : Bool) (f : Formula) → Rises f → Rises (any_of (cons_if t f []))
unfolding any_of value_of
cons_rises true f r v w h = greater_mono (r v w h) (leq_refl _)
cons_rises false f r v w h = leq_refl _

steady-one : (c : Clause) → Rises c.body → Steady (c ∷ [])
unfolding bodies_of
steady-one c r a = cons_rises (eqb a c.head) c.body r

truth_rises : Rises Formula.truth
unfolding value_of
truth_rises v w h = leq_refl _

falsity_rises : Rises Formula.falsity
unfolding value_of
falsity_rises v w h = leq_refl _

kind_rises : (k : ℕ) (f : Formula) → Rises f → Rises (by_kind k f)
kind_rises zero f r = truth_rises
kind_rises (suc zero) f r = falsity_rises
kind_rises (suc (suc k)) f r = r

clause-steady : (cl : List ℕ) (k : ℕ) → Steady (clause_at cl k ∷ [])
unfolding clause_at
clause-steady cl k =
    steady-one (clause_at cl k)
    (kind_rises (kind_at cl k) _ (λ v w h. body_mono v w h (plain_at cl k) (negated_at cl k)))

pub program-steady : (cl : List ℕ) (n : ℕ) (x : Additions) → Steady (program_with cl n x)
program-steady cl n x =
    program-all Steady steady-none steady-append x
    (λ a e. steady-one (clause a Formula.truth) truth_rises)
    (λ a e. steady-one (clause a Formula.falsity) falsity_rises)
    cl n (λ k l. clause-steady cl k)
