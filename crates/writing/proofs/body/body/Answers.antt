-- `body::body` meets its contract: the plain literals, then the negated ones. Assumes nothing.
use borrow.Author.Rules.{rules}
use Rattle.writing.proofs.Literals.{body-plain-room, body-negated-room, body-written}
use Rattle.writing.proofs.body.body.Goals as goal

pub literals-q-requires : goal.literals-q-requires
literals-q-requires c = (search rules, search body-plain-room)

pub literals-requires : goal.literals-requires
literals-requires c = (search rules, search body-negated-room)

pub returns : goal.returns
returns c = search body-written
