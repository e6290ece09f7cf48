-- `text::lines::line_end` meets its contract. The invariant is `InLine`: the bytes passed belong to one line.
-- Assumes nothing.
use Rattle.text.proofs.LineLaws.{InLine}
use Rattle.text.proofs.lines.line_end.Given as goal

abbrev pub invariant-loop-i : goal.invariant-loop-i
invariant-loop-i l = InLine l.file l.at l.i
