-- `names::some_long` meets its contract. The invariant: a name of the line is long if one from place at on is; none is
-- where at most 16 bytes are left. Assumes nothing.
use Prim.Native.Nat.{◌-◌}
use lib.ListN.{length}
use Rattle.names.proofs.LineNames.{LongFrom}
use Rattle.names.proofs.some_long.Given as goal

abbrev pub invariant-loop-at : goal.invariant-loop-at
invariant-loop-at l = LongFrom l.l l.at

abbrev pub decreases-loop-at : goal.decreases-loop-at
decreases-loop-at l = length l.l - l.at
