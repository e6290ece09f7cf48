-- `read::take_lines` meets its contract. The loop's invariant, LinesTaken, says that the file's outcome is that of the
-- lines left, behind what was read; the measure is what is left of the file. Assumes nothing.
use Prim.Native.Nat.{◌+◌, ◌-◌}
use lib.ListN.{length}
use Rattle.store.specs.Lent.{lent}
use Rattle.reader.proofs.TakingLines.{LinesTaken}
use Rattle.reader.proofs.read.take_lines.Given as goal

abbrev pub invariant-loop-at : goal.invariant-loop-at
invariant-loop-at l =
    let i = l.initial in
    LinesTaken l.file (lent i.clauses i.constraints i.formula i.names i.prices)
    (lent l.clauses l.constraints l.formula l.names l.prices) l.p l.at l.line

abbrev pub decreases-loop-at : goal.decreases-loop-at
decreases-loop-at l = length l.file + 1 - l.at
