-- `spelling::word` meets its contract: the gap, and the word behind it. Assumes nothing.
use Rattle.spelling.proofs.Pens.{word_gap_room, word_room, word-written}
use Rattle.spelling.proofs.word.Goals as goal

pub gap-first-requires : goal.gap-first-requires
gap-first-requires c = search word_gap_room

pub put_text-at-requires : goal.put_text-at-requires
put_text-at-requires c = search word_room

pub returns : goal.returns
returns c = search word-written
