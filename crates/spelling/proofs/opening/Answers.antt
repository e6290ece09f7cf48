-- `spelling::opening` meets its contract: one byte, behind which no word stands. Assumes nothing.
use Rattle.spelling.proofs.Pens.{opening-room, opening-written}
use Rattle.spelling.proofs.opening.Goals as goal

pub put-at-requires : goal.put-at-requires
put-at-requires c = search opening-room

pub returns : goal.returns
returns c = search opening-written
