-- `priced_in` meets its contract: each atom in turn is gathered where it has a price. Assumes nothing.
use mathlib.Core.Path.{refl, sym, ◌∙◌}
use native.Mathlib.Omega.{arith}
use Rattle.words.proofs.Gathering.{gathering_start, gathering_next, gathering_end}
use Rattle.cost.proofs.Costs.{priced_is}
use Rattle.cost.proofs.price.priced_in.Goals as goal

pub loop-a-init : goal.loop-a-init
loop-a-init c = gathering_start

pub loop-a-preserved : goal.loop-a-preserved
loop-a-preserved c =
    gathering_next c.loop-a.invariant (omega arith) _ refl _ c.with_bit-priced.ensures

pub returns : goal.returns
returns c = gathering_end c.loop-a.invariant (omega arith) ∙ sym (priced_is _)
