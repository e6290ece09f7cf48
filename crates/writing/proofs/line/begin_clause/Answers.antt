-- `line::begin_clause` meets its contract: a word for each kind. Assumes nothing.
use native.Mathlib.Omega.{arith}
use Rattle.writing.proofs.LineTexts.{word_room, word-written}
use Rattle.writing.proofs.line.begin_clause.Goals as goal

pub begin-requires : goal.begin-requires
begin-requires c = word_room 0 c.args.kind c.args.g (omega arith) c.requires.1

pub begin-requires-in-1 : goal.begin-requires-in-1
begin-requires-in-1 c = word_room 1 c.args.kind c.args.g (omega arith) c.requires.1

pub begin-requires-in_default : goal.begin-requires-in_default
begin-requires-in_default c = word_room 2 c.args.kind c.args.g (omega arith) c.requires.1

pub returns-in-0 : goal.returns-in-0
returns-in-0 c = word-written 0 c.args.kind c.args.g (omega arith) c.begin.ensures

pub returns-in-1 : goal.returns-in-1
returns-in-1 c = word-written 1 c.args.kind c.args.g (omega arith) c.begin-in-1.ensures

pub returns-in_default : goal.returns-in_default
returns-in_default c = word-written 2 c.args.kind c.args.g (omega arith) c.begin-in_default.ensures
