-- `rules` meets its contract: in each lane the best value so far and the rules left are all (`Ruling`). The measure is
-- the number of the rule that is next. Assumes nothing.
use Rattle.planes.proofs.Ruling.{Ruling}
use Rattle.planes.proofs.plane.rules.Given as goal

abbrev pub invariant-loop-k : goal.invariant-loop-k
invariant-loop-k l = Ruling l.clauses.words.now l.head l.clauses.count l.p.trues l.p.falses l.up l.down l.k

abbrev pub decreases-loop-k : goal.decreases-loop-k
decreases-loop-k l = l.k
