-- `with` meets its contract: where no lane is given nothing is noted, otherwise the lanes and the atom.
-- Assumes nothing.
use native.Mathlib.Omega.{arith}
use Rattle.round.proofs.Noting.{noted-none, noted-some}
use Rattle.round.proofs.redo.Changed.with.Goals as goal

pub returns-then-m-eq0 : goal.returns-then-m-eq0
returns-then-m-eq0 c = noted-none _ _ _ (omega arith) c.if-m-eq0.true

pub returns : goal.returns
returns c =
    let a = c.args in
    rw c.single.ensures (noted-some a.self a.atom a.m c.if-m-eq0.false)
