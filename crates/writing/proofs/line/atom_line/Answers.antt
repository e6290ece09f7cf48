-- `line::atom_line` meets its contract: its word, the name, and its end. Assumes nothing.
use Rattle.writing.proofs.LineTexts.{begin_room, part_room, close_room, line-written, atom-form}
use Rattle.writing.proofs.line.atom_line.Goals as goal

pub begin-p-requires : goal.begin-p-requires
begin-p-requires c = begin_room (atom-form _) c.args.g c.requires

pub word-q-requires : goal.word-q-requires
word-q-requires c = part_room (atom-form _) c.args.g c.begin-p.ensures c.requires

pub close-requires : goal.close-requires
close-requires c = close_room (atom-form _) c.args.g c.begin-p.ensures c.word-q.ensures c.requires

pub returns : goal.returns
returns c = line-written (atom-form _) c.args.g c.begin-p.ensures c.word-q.ensures c.close.ensures
