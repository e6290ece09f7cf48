-- The places of the forms, and a formula measured by its operands. Assumes nothing.
use mathlib.Core.List.{List}
use Prim.Native.Nat.{ℕ, ◌+◌, ◌≤◌, ◌<◌}
use native.Mathlib.Omega.{arith}
use Rattle.std.specs.Option.{MatchOption}
use Rattle.std.specs.Prelude.{Option, None, Some}
use Rattle.nodes.specs.declared.formula.Form.{Form}
use Rattle.nodes.specs.declared.formula.Form.TheVariants.{And, Or, Then, Same}
use Rattle.nodes.specs.Node.{place, IsDeeper}
use Rattle.logic.specs.Evaluation.{Measured, Unmeasured}

pub place_few : (f : Form) → place f ≤ 3
place_few And = omega arith
place_few Or = omega arith
place_few Then = omega arith
place_few Same = omega arith

-- the formula one deeper than its operands, if it is shallow enough
pub measured_deeper : (n : ℕ) (ks : List ℕ) (at d m : ℕ) (o : Option ℕ) → MatchOption o (16 ≤ d) (IsDeeper d)
    → (16 ≤ d → Unmeasured n ks at) → (d < 16 → Measured n ks at (d + 1) m)
    → MatchOption o (Unmeasured n ks at) (λ e. Measured n ks at e m)
measured_deeper n ks at d m None h p q = p h
measured_deeper n ks at d m (Some e) h p q = rw h.1 (q h.0)
