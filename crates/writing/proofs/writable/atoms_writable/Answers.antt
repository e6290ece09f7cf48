-- The goals of `writable::atoms_writable`: its loop keeps the invariant, and each way out gives what is promised.
-- Assumes nothing.
use Rattle.program.proofs.Entries.{tested-none, tested-more, tested-failed, tested-all}
use Rattle.writing.proofs.writable.atoms_writable.Goals as goal

pub loop-a-init : goal.loop-a-init
loop-a-init c = search tested-none

pub returns-then-not-is_writable_atom : goal.returns-then-not-is_writable_atom
returns-then-not-is_writable_atom c = search tested-failed

pub loop-a-preserved : goal.loop-a-preserved
loop-a-preserved c = search tested-more

pub returns : goal.returns
returns c = search tested-all
