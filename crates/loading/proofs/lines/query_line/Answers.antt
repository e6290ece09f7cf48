-- `lines::query_line` meets its contract: its word, the name, and its end. Assumes nothing.
use Rattle.writing.proofs.LineTexts.{begin_room, part_room, close_room, line-written}
use Rattle.loading.proofs.LineTexts.{first-query-form}
use Rattle.loading.proofs.lines.query_line.Goals as goal

pub begin-p-requires : goal.begin-p-requires
begin-p-requires c = begin_room first-query-form c.args.g c.requires

pub word-q-requires : goal.word-q-requires
word-q-requires c = rw c.load_name.ensures (part_room first-query-form c.args.g c.begin-p.ensures c.requires)

pub close-requires : goal.close-requires
close-requires c =
    close_room first-query-form c.args.g c.begin-p.ensures (rw c.load_name.ensures at c.word-q.ensures) c.requires

pub returns : goal.returns
returns c =
    line-written first-query-form c.args.g c.begin-p.ensures
    (rw c.load_name.ensures at c.word-q.ensures) c.close.ensures
