-- `body::open_word` meets its contract: a bracket, and the word behind it. Assumes nothing.
use Rattle.writing.proofs.Literals.{open_room, opened-room, opened-written}
use Rattle.writing.proofs.body.open_word.Goals as goal

pub opening-q-requires : goal.opening-q-requires
opening-q-requires c = search open_room

pub word-requires : goal.word-requires
word-requires c = search opened-room

pub returns : goal.returns
returns c = search opened-written
