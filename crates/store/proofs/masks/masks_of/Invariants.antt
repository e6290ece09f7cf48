-- `masks::masks_of` meets its contract. The invariant is `Passed`: the literals from place i on and those of m are all.
-- The measure is what is left of the line. Assumes nothing.
use Prim.Native.Nat.{◌-◌}
use lib.ListN.{length}
use Rattle.names.specs.Row.{row_of}
use Rattle.store.proofs.MaskLaws.{Passed}
use Rattle.store.proofs.masks.masks_of.Given as goal

abbrev pub invariant-loop-negated : goal.invariant-loop-negated
invariant-loop-negated l = Passed (row_of l.names l.count) l.l l.at l.i l.m

abbrev pub decreases-loop-negated : goal.decreases-loop-negated
decreases-loop-negated l = length l.l - l.i
