-- `output::put_text`: its loop begins with nothing written, and writes a byte more. Assumes nothing.
use Rattle.output.proofs.Laying.{writes-none, writes_more}
use Rattle.output.proofs.put_text.Goals as goal

pub loop-b-init : goal.loop-b-init
loop-b-init c = writes-none _ _

pub loop-b-preserved : goal.loop-b-preserved
loop-b-preserved c = search writes_more
