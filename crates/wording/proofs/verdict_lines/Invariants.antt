-- `wording::verdict_lines` meets its contract. The loop's invariant: what is written so far, and the lines from the
-- next verdict on, make up the whole. Assumes nothing.
use Rattle.wording.specs.Text.{verdict_line}
use Rattle.wording.proofs.Listings.{AtLine}
use Rattle.wording.proofs.verdict_lines.Given as goal

abbrev pub invariant-loop-verdict : goal.invariant-loop-verdict
invariant-loop-verdict l = AtLine verdict_line l.verdicts l.initial.out l.at l.verdict-index l.place l.out
