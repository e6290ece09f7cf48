-- `line::seen_line` meets its contract: its word, the literal, and its end. Assumes nothing.
use Rattle.writing.proofs.LineTexts.{begin_room, part_room, close_room, line-written, seen-form}
use Rattle.writing.proofs.line.seen_line.Goals as goal

pub begin-p-requires : goal.begin-p-requires
begin-p-requires c = begin_room (seen-form _) c.args.g c.requires

pub literal-q-requires : goal.literal-q-requires
literal-q-requires c =
    part_room (seen-form _) c.args.g c.begin-p.ensures c.requires

pub close-requires : goal.close-requires
close-requires c =
    close_room (seen-form _) c.args.g c.begin-p.ensures c.literal-q.ensures c.requires

pub returns : goal.returns
returns c =
    line-written (seen-form _) c.args.g c.begin-p.ensures c.literal-q.ensures c.close.ensures
