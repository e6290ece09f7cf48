-- `body_value` meets its contract: a clause of neither kind 0 nor kind 1 is a rule. Assumes nothing.
use mathlib.Core.Path.{◌≡◌, refl}
use Prim.Native.Nat.{ℕ, zero, suc}
use Rattle.logic.specs.Formula.{Formula, value_of}
use Rattle.program.specs.Program.{by_kind}
use Rattle.settle.proofs.step.body_value.Goals as goal

by-kind-rule : (k : ℕ) (f : Formula) → (k ≡ 0 → ⊥) → (k ≡ 1 → ⊥) → f ≡ by_kind k f
by-kind-rule zero f h l = absurd (h refl)
by-kind-rule (suc zero) f h l = absurd (l refl)
by-kind-rule (suc (suc k)) f h l = refl

pub returns-in-0 : goal.returns-in-0
unfolding value_of
returns-in-0 c = rw c.in-0.is refl

pub returns-in-1 : goal.returns-in-1
unfolding value_of
returns-in-1 c = rw c.in-1.is refl
