-- The goals of `lines::cost_lines`: its loop keeps the invariant, and each way out gives what is promised.
-- Assumes nothing.
use native.Mathlib.Omega.{arith}
use Rattle.writing.proofs.Growing.{costs-grow, entry-start, entry-room, entry_more, entry-end}
use Rattle.writing.proofs.lines.cost_lines.Goals as goal

pub loop-atom-init : goal.loop-atom-init
loop-atom-init c = entry-start (costs-grow _ _) _ _ _

pub priced_line-page-requires : goal.priced_line-page-requires
priced_line-page-requires c =
    (omega arith, omega arith, entry-room (costs-grow _ _) c.loop-atom.invariant (omega arith) c.requires.3)

pub loop-atom-preserved : goal.loop-atom-preserved
loop-atom-preserved c =
    entry_more (costs-grow _ _) c.loop-atom.invariant (omega arith) c.priced_line-page.ensures

pub returns : goal.returns
returns c = entry-end (costs-grow _ _) c.loop-atom.invariant (omega arith)
