-- The goals of `lines::constraint_lines`: its loop keeps the invariant, and each way out gives what is promised.
-- Assumes nothing.
use native.Mathlib.Omega.{arith}
use Rattle.writing.proofs.Growing.{list_grows, entry-start, entry-room, entry_more, entry-end}
use Rattle.writing.proofs.lines.constraint_lines.Goals as goal

pub loop-k-init : goal.loop-k-init
loop-k-init c = entry-start (list_grows _) _ _ _

pub constraint_line-page-requires : goal.constraint_line-page-requires
constraint_line-page-requires c = (
  c.requires.3 c.loop-k.k (omega arith),
  c.requires.1,
  entry-room (list_grows _) c.loop-k.invariant (omega arith) c.requires.4,
)

pub loop-k-preserved : goal.loop-k-preserved
loop-k-preserved c =
    entry_more (list_grows _) c.loop-k.invariant (omega arith) c.constraint_line-page.ensures

pub returns : goal.returns
returns c = entry-end (list_grows _) c.loop-k.invariant (omega arith)
