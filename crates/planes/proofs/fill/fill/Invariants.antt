-- `fill` meets its contract: the lanes passed hold what their settings add, and `next` is what the setting behind them
-- adds (`Filling`). Assumes nothing.
use mathlib.Core.Path.{◌≡◌}
use Prim.Native.Nat.{ℕ}
use Rattle.program.specs.Setting.{additions_of}
use Rattle.planes.proofs.Filling.{Filling}
use Rattle.planes.proofs.fill.fill.Given as goal

abbrev pub invariant-loop-j : goal.invariant-loop-j
invariant-loop-j l = (s : ℕ) → l.initial.next ≡ additions_of l.causes s
    → Filling l.causes s l.next l.j l.planes.facts l.planes.assumptions
