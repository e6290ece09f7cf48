-- `choose` meets its contract: the minimal settings are taken one by one (`Choosing`), unless the cheapest costs
-- nothing. Assumes nothing.
use Rattle.cost.proofs.Choosing.{Choosing}
use Rattle.cost.proofs.cheapest.choose.Given as goal

abbrev pub invariant-loop-j : goal.invariant-loop-j
invariant-loop-j l =
    Choosing l.prices l.added.facts l.added.assumptions l.minimals.first l.minimals.lanes l.initial.cheapest l.cheapest
    l.j-iterator.left
