-- `program::cause::Additions::next` meets its contract. The loop's invariant: the causes passed have fallen to digit 0,
-- and the causes left carry the setting on. Assumes nothing.
use mathlib.Core.Path.{◌≡◌}
use Prim.Native.Nat.{ℕ}
use Rattle.program.specs.Setting.{additions_of}
use Rattle.program.proofs.NextSetting.{Carried}
use Rattle.program.proofs.cause.Additions.next.Given as goal

abbrev pub invariant-loop-atom : goal.invariant-loop-atom
invariant-loop-atom l =
    (s : ℕ) → l.initial.x ≡ additions_of l.causes s
    → Carried l.causes.twofold l.causes.all s l.x l.atom-iterator.left
