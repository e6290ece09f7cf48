-- The goals of `wording::verdict_lines`: its loop keeps the invariant, and each way out gives what is promised.
-- Assumes nothing.
use Rattle.wording.specs.Text.{verdict_line}
use Rattle.wording.proofs.Listings.{line-start, line-room, line-more, line-end}
use Rattle.wording.proofs.verdict_lines.Goals as goal

pub loop-verdict-init : goal.loop-verdict-init
loop-verdict-init c = line-start _ _ _ _

pub verdict_line-place-requires : goal.verdict_line-place-requires
verdict_line-place-requires c = search (line-room verdict_line)

pub loop-verdict-preserved : goal.loop-verdict-preserved
loop-verdict-preserved c = search line-more

pub returns : goal.returns
returns c = search line-end
