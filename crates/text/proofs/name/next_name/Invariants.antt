-- `text::name::next_name` meets its contract. The invariant is `Looking`: no name stands before place i.
-- Assumes nothing.
use Prim.Native.Nat.{◌-◌}
use lib.ListN.{length}
use Rattle.text.proofs.Names.{Looking}
use Rattle.text.proofs.name.next_name.Given as goal

abbrev pub invariant-loop-n : goal.invariant-loop-n
invariant-loop-n l = Looking l.l l.at l.i l.opened

abbrev pub decreases-loop-n : goal.decreases-loop-n
decreases-loop-n l = length l.l - l.i
