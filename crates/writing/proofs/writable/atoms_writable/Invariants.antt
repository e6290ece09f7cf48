-- `writable::atoms_writable` meets its contract. The loop's invariant: every atom passed is writable (`Tested`).
-- Assumes nothing.
use Rattle.program.proofs.Entries.{Tested}
use Rattle.writing.specs.Operation.{is_writable_atom}
use Rattle.writing.proofs.writable.atoms_writable.Given as goal

abbrev pub invariant-loop-a : goal.invariant-loop-a
invariant-loop-a l = Tested (is_writable_atom l.names l.prices) l.n l.a
