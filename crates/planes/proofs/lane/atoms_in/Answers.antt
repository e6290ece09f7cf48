-- The goals of `atoms_in`: its loop keeps the invariant, and the word gathered is the lane's. Assumes nothing.
use native.Mathlib.Omega.{arith}
use Rattle.words.proofs.Gathering.{gathering_start, gathering_next, gathering_end}
use Rattle.planes.proofs.lane.atoms_in.Goals as goal

pub loop-i-init : goal.loop-i-init
loop-i-init c = gathering_start

pub loop-i-preserved : goal.loop-i-preserved
loop-i-preserved c =
    gathering_next c.loop-i.invariant (omega arith) _ c.test.ensures _ c.with_bit-atoms.ensures

pub returns : goal.returns
returns c = gathering_end c.loop-i.invariant (omega arith)
