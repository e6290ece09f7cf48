-- `run` meets its contract: after each round the lanes stand as `Settling` says, and where no lane changes all have
-- settled, and what is decided is counted. The measure is 64 less the number of rounds. Assumes nothing.
use Prim.Native.Nat.{◌-◌}
use Rattle.planes.specs.Planes.{Sizes}
use Rattle.lanes.specs.Rounds.{added_in}
use Rattle.lanes.proofs.LaneRounds.{Settling}
use Rattle.lanes.proofs.rounds.run.Given as goal

abbrev pub invariant-loop-c : goal.invariant-loop-c
invariant-loop-c l =
    Settling l.clauses.words.now l.clauses.count (added_in l.added.facts l.added.assumptions) l.m l.p.trues l.p.falses
    l.c l.k l.total
    × Sizes l.noted.trues l.noted.falses

abbrev pub decreases-loop-c : goal.decreases-loop-c
decreases-loop-c l = 64 - l.k
