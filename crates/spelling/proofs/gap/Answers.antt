-- `spelling::gap` meets its contract, by whether a word stands just before. Assumes nothing.
use Rattle.spelling.proofs.Pens.{gap_room, gap_written, gap_none}
use Rattle.spelling.proofs.gap.Goals as goal

pub put-requires : goal.put-requires
put-requires c = search gap_room

pub returns-then-p : goal.returns-then-p
returns-then-p c = search gap_written

pub returns : goal.returns
returns c = search gap_none
