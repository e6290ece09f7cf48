-- `line::begin_constraint` meets its contract: a word for each kind. Assumes nothing.
use Prim.Native.Nat.{◌+◌}
use native.Mathlib.Omega.{arith}
use Rattle.writing.proofs.LineTexts.{word_room, word-written}
use Rattle.writing.proofs.line.begin_constraint.Goals as goal

pub begin-requires : goal.begin-requires
begin-requires c = word_room 3 (3 + c.args.kind) c.args.g (omega arith) c.requires.1

pub returns-in-0 : goal.returns-in-0
returns-in-0 c = word-written 3 (3 + c.args.kind) c.args.g (omega arith) c.begin.ensures

pub begin-requires-in_default : goal.begin-requires-in_default
begin-requires-in_default c = word_room 4 (3 + c.args.kind) c.args.g (omega arith) c.requires.1

pub returns-in_default : goal.returns-in_default
returns-in_default c = word-written 4 (3 + c.args.kind) c.args.g (omega arith) c.begin-in_default.ensures
