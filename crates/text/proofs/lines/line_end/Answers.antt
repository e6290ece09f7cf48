-- Answers to the goals of this function. Assumes nothing.
use borrow.Author.Rules.{rules}
use Rattle.text.proofs.LineLaws.{in_line_more, in_line_stops, in_line_ends}
use Rattle.text.proofs.lines.line_end.Goals as goal

pub returns-then-file-i-eq10 : goal.returns-then-file-i-eq10
returns-then-file-i-eq10 c = search (rules, in_line_stops)

pub loop-i-preserved : goal.loop-i-preserved
loop-i-preserved c = search (rules, in_line_more)

pub returns : goal.returns
returns c = search (rules, in_line_ends)
