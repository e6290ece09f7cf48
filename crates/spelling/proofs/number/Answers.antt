-- `spelling::number` meets its contract: the gap, and the number behind it. Assumes nothing.
use Rattle.spelling.proofs.Pens.{word_gap_room, word_room, word-written}
use Rattle.spelling.proofs.number.Goals as goal

pub gap-first-requires : goal.gap-first-requires
gap-first-requires c = search word_gap_room

pub put_decimal-at-requires : goal.put_decimal-at-requires
put_decimal-at-requires c = search word_room

pub returns : goal.returns
returns c = search word-written
