-- `visit` meets its contract: the lanes are taken one by one (`Visiting`). Assumes nothing.
use Rattle.verdict.proofs.Visiting.{Visiting}
use Rattle.verdict.proofs.visit.visit.Given as goal

abbrev pub invariant-loop-j : goal.invariant-loop-j
invariant-loop-j l =
    Visiting l.queries.nodes.now l.queries.formula.now l.block.explains l.block.larger l.block.planes.now.trues
    l.block.planes.now.falses l.m l.block.first l.initial.found l.initial.list l.initial.work l.list l.work l.found l.j
