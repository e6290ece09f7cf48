-- The goals of `run`: its loop keeps the invariant, and each way out gives what is promised. Assumes nothing.
use mathlib.Core.Path.{sym}
use native.Mathlib.Omega.{arith}
use Rattle.words.proofs.Sums.{sum-none}
use Rattle.settle.proofs.Steady.{program-steady}
use Rattle.settle.proofs.Reached.{good_decided, start, reached_good, newly-falls, newly-again}
use Rattle.settle.proofs.Reached.{newly-ends, sum-again, sum-few}
use Rattle.settle.proofs.settle.run.Goals as goal

pub returns : goal.returns
returns c =
    let i = c.loop-added.invariant in
    newly-ends _ (program-steady _ _ _) i.0 _ c.apply-next.ensures _ i.1 c.if-next-eq0.true

pub loop-added-init : goal.loop-added-init
loop-added-init c = (rw c.nothing-interpretation.ensures (start _), sym (sum-none _))

pub apply-next-requires : goal.apply-next-requires
apply-next-requires c = ((reached_good _ c.loop-added.invariant.0).disjoint, c.requires)

pub overflow_add-rounds : goal.overflow_add-rounds
overflow_add-rounds c =
    let i = c.loop-added.invariant.0 in
    omega (arith, i.few, good_decided c.loop-added.interpretation (reached_good _ i))

pub overflow_add-decided : goal.overflow_add-decided
overflow_add-decided c =
    let i = c.loop-added.invariant in
    omega (arith, sum-few _ (program-steady _ _ _) i.0 _ c.apply-next.ensures _ i.1)

pub loop-added-smaller : goal.loop-added-smaller
loop-added-smaller c =
    newly-falls _ (program-steady _ _ _) c.loop-added.invariant.0 _ c.apply-next.ensures c.if-next-eq0.false

pub loop-added-preserved : goal.loop-added-preserved
loop-added-preserved c =
    let i = c.loop-added.invariant in (
      newly-again _ (program-steady _ _ _) i.0 _ c.apply-next.ensures c.if-next-eq0.false,
      sum-again _ (program-steady _ _ _) i.0 _ c.apply-next.ensures _ i.1,
    )
