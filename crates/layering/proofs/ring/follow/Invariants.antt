-- `follow` meets its contract. The loop's invariant: the path so far is followed (`Followed`). The measure is the room
-- left in the path. Assumes nothing.
use Prim.Native.Nat.{◌-◌}
use Rattle.layering.specs.Path.{Followed}
use Rattle.layering.proofs.ring.follow.Given as goal

abbrev pub invariant-loop-atoms : goal.invariant-loop-atoms
invariant-loop-atoms l = Followed l.dependents l.stuck l.atoms l.len l.seen l.at

abbrev pub decreases-loop-atoms : goal.decreases-loop-atoms
decreases-loop-atoms l = 64 - l.len
