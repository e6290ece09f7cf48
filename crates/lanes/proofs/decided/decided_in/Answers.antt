-- `decided_in` meets its contract: each atom in turn is counted in the lanes where it is decided. Assumes nothing.
use native.Mathlib.Omega.{arith}
use Rattle.lanes.proofs.Counting.{counting_start, counting_small, counting_next, counting_end}
use Rattle.lanes.proofs.decided.decided_in.Goals as goal

pub loop-a-init : goal.loop-a-init
loop-a-init c = counting_start _ _ _

pub overflow_add-total : goal.overflow_add-total
overflow_add-total c =
    omega (arith, counting_small _ _ _ c.loop-a.invariant c.count-total.ensures (omega arith))

pub loop-a-preserved : goal.loop-a-preserved
loop-a-preserved c = counting_next _ _ _ c.loop-a.invariant c.count-total.ensures (omega arith)

pub returns : goal.returns
returns c =
    let p = c.requires in
    counting_end _ _ _ c.loop-a.invariant _ p.1 (omega arith) c.lowest-valid.ensures p.2 (omega arith)
