-- `body::literal` meets its contract: a name alone, or behind "not" in brackets. Assumes nothing.
use Rattle.writing.proofs.Literals.{not-room, negated-name-room, negated_close_room, negated-written}
use Rattle.writing.proofs.Literals.{plain-name-room, plain-written}
use Rattle.writing.proofs.body.literal.Goals as goal

pub open_word-q-requires : goal.open_word-q-requires
open_word-q-requires c = search not-room

pub word-s-requires : goal.word-s-requires
word-s-requires c = search negated-name-room

pub closing-requires : goal.closing-requires
closing-requires c = search negated_close_room

pub returns-then-negated : goal.returns-then-negated
returns-then-negated c = search negated-written

pub word-requires : goal.word-requires
word-requires c = search plain-name-room

pub returns : goal.returns
returns c = search plain-written
