-- `output::name_of` meets its contract. The invariant: no byte of the row so far is zero. Assumes nothing.
use Rattle.output.proofs.Names.{NoneZero}
use Rattle.output.proofs.name_of.Given as goal

abbrev pub invariant-loop-i : goal.invariant-loop-i
invariant-loop-i l = NoneZero l.row l.i
