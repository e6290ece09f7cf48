-- `literal::body_at` meets its contract. The invariant is `Counted`; the measure is what is left of the line.
-- Assumes nothing.
use Prim.Native.Nat.{◌-◌}
use lib.ListN.{length}
use Rattle.grammar.proofs.Literals.{Counted}
use Rattle.grammar.proofs.literal.body_at.Given as goal

abbrev pub invariant-loop-next : goal.invariant-loop-next
invariant-loop-next l = Counted l.l l.at l.i l.count

abbrev pub decreases-loop-next : goal.decreases-loop-next
decreases-loop-next l = length l.l - l.i
