-- The goals of `lines::atom_lines`: its loop keeps the invariant, and each way out gives what is promised.
-- Assumes nothing.
use native.Mathlib.Omega.{arith}
use Rattle.writing.proofs.Growing.{list_grows, entry-start, entry-room, entry_more, entry-end}
use Rattle.writing.proofs.lines.atom_lines.Goals as goal

pub loop-a-init : goal.loop-a-init
loop-a-init c = entry-start (list_grows _) _ _ _

pub atom_line-page-requires : goal.atom_line-page-requires
atom_line-page-requires c =
    rw c.name_of.ensures (entry-room (list_grows _) c.loop-a.invariant (omega arith) c.requires.2)

pub loop-a-preserved : goal.loop-a-preserved
loop-a-preserved c =
    entry_more (list_grows _) c.loop-a.invariant (omega arith) (rw c.name_of.ensures at c.atom_line-page.ensures)

pub returns : goal.returns
returns c = entry-end (list_grows _) c.loop-a.invariant (omega arith)
