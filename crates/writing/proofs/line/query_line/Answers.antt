-- `line::query_line` meets its contract: its word, the formula, and its end. Assumes nothing.
use Rattle.writing.proofs.LineTexts.{begin_room, part_room, close_room, line-written, query-form}
use Rattle.writing.proofs.Formulas.{one-room, one_written}
use Rattle.writing.proofs.line.query_line.Goals as goal

pub begin-p-requires : goal.begin-p-requires
begin-p-requires c = begin_room (query-form _) c.args.g c.requires.2

pub formula-s-requires : goal.formula-s-requires
formula-s-requires c = (
  c.requires.0,
  one-room _ _ c.requires.1 _
      (part_room (query-form _) c.args.g c.begin-p.ensures c.requires.2),
)

pub close-requires : goal.close-requires
close-requires c =
    close_room (query-form _) c.args.g c.begin-p.ensures (one_written _ _ c.requires.1 _ c.formula-s.ensures)
    c.requires.2

pub returns : goal.returns
returns c =
    line-written (query-form _) c.args.g c.begin-p.ensures (one_written _ _ c.requires.1 _ c.formula-s.ensures)
    c.close.ensures
