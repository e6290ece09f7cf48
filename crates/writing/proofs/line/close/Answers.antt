-- `line::close` meets its contract: the closing bracket, and LF behind it. Assumes nothing.
use Rattle.writing.proofs.LineTexts.{closing-room, feed_room, closes}
use Rattle.writing.proofs.line.close.Goals as goal

pub closing-q-requires : goal.closing-q-requires
closing-q-requires c = closing-room c.args.g c.args.p c.requires.1

pub end_line-requires : goal.end_line-requires
end_line-requires c = feed_room c.args.g c.args.p c.closing-q.ensures c.requires

pub returns : goal.returns
returns c = closes c.args.g c.args.p c.closing-q.ensures c.end_line.ensures
