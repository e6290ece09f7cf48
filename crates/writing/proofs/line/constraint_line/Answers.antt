-- `line::constraint_line` meets its contract: its word, the literals, and its end. Assumes nothing.
use Rattle.writing.proofs.LineTexts.{begin_room, part_room, close_room, line-written, constraint-form}
use Rattle.writing.proofs.line.constraint_line.Goals as goal

pub begin_constraint-p-requires : goal.begin_constraint-p-requires
begin_constraint-p-requires c =
    (c.requires.0, begin_room (constraint-form _ _) c.args.g c.requires.2)

pub body-q-requires : goal.body-q-requires
body-q-requires c =
    (c.requires.1, part_room (constraint-form _ _) c.args.g c.begin_constraint-p.ensures c.requires.2)

pub close-requires : goal.close-requires
close-requires c =
    close_room (constraint-form _ _) c.args.g c.begin_constraint-p.ensures c.body-q.ensures c.requires.2

pub returns : goal.returns
returns c =
    line-written (constraint-form _ _) c.args.g c.begin_constraint-p.ensures c.body-q.ensures
    c.close.ensures
