-- `cost_in` meets its contract: each atom of `priced` in turn is paid where it is added. Assumes nothing.
use native.Mathlib.Omega.{arith}
use Rattle.cost.proofs.Costs.{price-is, paying_start, paying_next, paying_few, paying_end}
use Rattle.cost.proofs.price.cost_in.Goals as goal

pub loop-a-init : goal.loop-a-init
loop-a-init c =
    rw (c.into_iter-a-iterator.ensures.into_iter_gives, c.bits_of-a-items.ensures, c.requires.1)
    (paying_start _ _ _ _)

pub overflow_add-cost : goal.overflow_add-cost
overflow_add-cost c =
    let a = c.args in
    let p = a.added.now in
    let b = c.in-Some.ensures.steps.0.bit in
    let price = price-is a.prices.now p.facts p.assumptions a.j _ c.test-on.ensures c.price_if-cost.ensures in
    let next = paying_few c.loop-a.invariant b price in
    omega (arith, next (λ k. omega (arith, c.type_inv.prices k)))

pub loop-a-preserved : goal.loop-a-preserved
loop-a-preserved c =
    let a = c.args in
    let p = a.added.now in
    let b = c.in-Some.ensures.steps.0.bit in
    let price = price-is a.prices.now p.facts p.assumptions a.j _ c.test-on.ensures c.price_if-cost.ensures in
    rw c.in-Some.ensures.steps.1 (paying_next c.loop-a.invariant b price)

pub returns : goal.returns
returns c = paying_end c.loop-a.invariant c.in-None.ensures.steps.0 c.requires.2
