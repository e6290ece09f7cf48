-- The goals of `weigh`: its loop keeps the invariant, and ends with every cause weighed. Assumes nothing.
use mathlib.Core.Path.{refl}
use native.Mathlib.Omega.{arith}
use Rattle.explanation.proofs.Weighing.{weighed_start, weight-few, weighed_next, weighed_end}
use Rattle.explanation.proofs.weights.weigh.Goals as goal

pub loop-atom-init : goal.loop-atom-init
loop-atom-init c =
    rw (c.into_iter-atom-iterator.ensures.into_iter_gives, c.bits_of-atom-items.ensures)
    (weighed_start _ _ c.requires refl)

pub overflow_mul-weight : goal.overflow_mul-weight
overflow_mul-weight c =
    omega (
      arith,
      weight-few _ _ _ _ _ _ _ c.loop-atom.invariant c.in-Some.ensures.steps.0 c.choice.ensures,
    )

pub loop-atom-preserved : goal.loop-atom-preserved
loop-atom-preserved c =
    let h = c.in-Some.ensures.steps.0 in
    rw c.in-Some.ensures.steps.1 (weighed_next _ _ _ _ _ _ _ c.loop-atom.invariant h c.choice.ensures)

pub returns : goal.returns
returns c = weighed_end _ _ _ _ c.in-None.ensures.steps.0 c.loop-atom.invariant
