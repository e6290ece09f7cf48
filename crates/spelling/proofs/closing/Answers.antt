-- `spelling::closing` meets its contract: one byte, behind which no word stands. Assumes nothing.
use Rattle.spelling.proofs.Pens.{closing-room, closing-written}
use Rattle.spelling.proofs.closing.Goals as goal

pub put-requires : goal.put-requires
put-requires c = search closing-room

pub returns : goal.returns
returns c = search closing-written
