-- `hold` meets its contract: the queries that are still asked are told one by one (`Telling`). Assumes nothing.
use Rattle.verdict.specs.Lane.{query_under}
use Rattle.verdict.proofs.Holding.{Telling}
use Rattle.verdict.proofs.query.hold.Given as goal

abbrev pub invariant-loop-q : goal.invariant-loop-q
invariant-loop-q l =
    Telling l.initial.told (query_under l.i l.queries.nodes.now l.queries.formula.now) l.told l.q-iterator.left
