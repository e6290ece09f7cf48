-- `walk` meets its contract: a block is filled, settled, judged and visited, the cheapest is chosen, and the walk
-- stands 64 settings on (`Walking`). Assumes nothing.
use Rattle.walk.proofs.Blocks.{Walking}
use Rattle.walk.proofs.walk.walk.Given as goal

abbrev pub invariant-loop-b : goal.invariant-loop-b
invariant-loop-b l =
    let t = l.course.tables in
    Walking l.course.case t.clauses.now t.constraints.now t.formula.now l.course.prices.now l.course.causes l.course.end
    l.initial.list l.initial.work l.list l.work l.row l.tally l.added l.b
