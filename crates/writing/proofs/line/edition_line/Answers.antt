-- `line::edition_line` meets its contract: its word, the number, and its end. Assumes nothing.
use Rattle.writing.proofs.LineTexts.{begin_room, part_room, close_room, line-written, edition-form}
use Rattle.writing.proofs.line.edition_line.Goals as goal

pub begin-p-requires : goal.begin-p-requires
begin-p-requires c = begin_room (edition-form _ c.requires.0) c.args.g c.requires.1

pub number-q-requires : goal.number-q-requires
number-q-requires c =
    part_room (edition-form _ c.requires.0) c.args.g c.begin-p.ensures c.requires.1

pub close-requires : goal.close-requires
close-requires c =
    close_room (edition-form _ c.requires.0) c.args.g c.begin-p.ensures c.number-q.ensures c.requires.1

pub returns : goal.returns
returns c =
    line-written (edition-form _ c.requires.0) c.args.g c.begin-p.ensures c.number-q.ensures c.close.ensures
