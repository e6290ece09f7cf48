-- `read::read_lines` meets its contract: the tables are zeroed, the lines are taken, and a refusal zeroes them again.
-- Assumes nothing.
use mathlib.Core.Path.{sym}
use Rattle.reader.proofs.ZeroedTables.{zeroed_ready}
use Rattle.reader.proofs.ReadingLines.{taken-read, zeroed-read}
use Rattle.reader.proofs.read.read_lines.Goals as goal

pub take_lines-answer-requires : goal.take_lines-answer-requires
take_lines-answer-requires c = zeroed_ready c.zero.ensures c.requires.0 c.requires.1

pub returns-then-is_err : goal.returns-then-is_err
returns-then-is_err c =
    zeroed-read c.zero.ensures c.take_lines-answer.ensures (sym c.if-is_err.ensures.value) c.zero-then-is_err.ensures

pub returns-else-is_err : goal.returns-else-is_err
returns-else-is_err c = taken-read c.zero.ensures c.take_lines-answer.ensures (sym c.if-is_err.ensures.value)
