-- `output::put` meets its contract: the byte is stored before the output's end, and counted behind it. Assumes nothing.
use Rattle.output.proofs.Laying.{writes_one, writes-past}
use Rattle.output.proofs.put.Goals as goal
use Rattle.output.proofs.put.Goals.{then-at-out, else-at-out}

pub returns : goal.returns
returns c =
    let a = c.args in
    let here = writes_one a.out.now a.at a.b in
    let past = writes-past a.out.now a.at a.b in
    elim c.if-at-out.branch [ then-at-out w ↦ here w.out-is | else-at-out w ↦ past w.if-at-out.false w.out-is ]
