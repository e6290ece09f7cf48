-- The goals of `lines::atom_lines`: its loop keeps the invariant, and each way out gives what is promised.
-- Assumes nothing.
use native.Mathlib.Omega.{arith}
use Rattle.writing.proofs.Growing.{entry-start, entry-room, entry_more, entry-end}
use Rattle.loading.proofs.LineTexts.{atoms-grow}
use Rattle.loading.proofs.lines.atom_lines.Goals as goal

pub loop-atom-init : goal.loop-atom-init
loop-atom-init c = entry-start atoms-grow _ _ _

pub atom_line-page-requires : goal.atom_line-page-requires
atom_line-page-requires c =
    rw c.load_name.ensures (entry-room atoms-grow c.loop-atom.invariant (omega arith) c.requires)

pub loop-atom-preserved : goal.loop-atom-preserved
loop-atom-preserved c =
    entry_more atoms-grow c.loop-atom.invariant (omega arith) (rw c.load_name.ensures at c.atom_line-page.ensures)

pub returns : goal.returns
returns c = entry-end atoms-grow c.loop-atom.invariant (omega arith)
