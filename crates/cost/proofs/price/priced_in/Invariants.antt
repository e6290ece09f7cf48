-- `priced_in` meets its contract: the atoms with a price are gathered one by one (`Gathering`). Assumes nothing.
use lib.Dec.{ltb}
use lib.ListN.{get_or}
use Rattle.words.proofs.Gathering.{Gathering}
use Rattle.cost.proofs.price.priced_in.Given as goal

abbrev pub invariant-loop-a : goal.invariant-loop-a
invariant-loop-a l = Gathering (λ i. ltb 0 (get_or l.prices i 0)) l.priced l.a
