-- `write_whole`: what a call of write adds. Assumes nothing of the writer but what its bound promises.
use Rattle.std.proofs.Common.{rules}
use Rattle.system.proofs.Writing.{write_on}
use Rattle.system.proofs.write_whole.Goals as goal

pub loop-done-preserved : goal.loop-done-preserved
loop-done-preserved g c = (search rules, write_on _ _ _ _ _ _ c.loop-done.invariant.1 c.in_ok-n.ensures.bytes)
