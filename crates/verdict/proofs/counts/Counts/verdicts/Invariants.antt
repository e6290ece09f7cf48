-- `verdicts` meets its contract: the number of each verdict is stored behind those of the queries before it
-- (`Numbered`). Assumes nothing.
use Rattle.verdict.proofs.Numbers.{Numbered}
use Rattle.verdict.proofs.counts.Counts.verdicts.Given as goal

abbrev pub invariant-loop-q : goal.invariant-loop-q
invariant-loop-q l = Numbered l.self l.numbers l.q
