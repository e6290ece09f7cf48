-- `run` meets its contract: the loop's interpretation is reached by as many rounds as it counts, each of which newly
-- decided something, and it sums up what they newly decided. The measure is what is left of 64 decided atoms. Assumes
-- nothing.
use mathlib.Core.Path.{◌≡◌}
use Prim.Native.Nat.{◌-◌}
use Rattle.logic.specs.Interpretation.{decided_in}
use Rattle.program.specs.Program.{program_with}
use Rattle.settle.specs.Rounds.{decided_sum}
use Rattle.settle.proofs.Reached.{Reached}
use Rattle.settle.proofs.settle.run.Given as goal

abbrev pub invariant-loop-added : goal.invariant-loop-added
invariant-loop-added l =
    let p = program_with l.clauses.words.now l.clauses.count l.added in
    Reached p l.interpretation l.rounds × (l.decided ≡ decided_sum p l.rounds)

abbrev pub decreases-loop-added : goal.decreases-loop-added
decreases-loop-added l =
    64 - decided_in l.interpretation
