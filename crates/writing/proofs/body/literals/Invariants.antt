-- `body::literals` meets its contract. The loop's invariant: of the literals those on the atoms left are still to be
-- written. Assumes nothing.
use Rattle.names.specs.Row.{name_in}
use Rattle.writing.proofs.Bits.{AtLiteral}
use Rattle.writing.proofs.body.literals.Given as goal

abbrev pub invariant-loop-a : goal.invariant-loop-a
invariant-loop-a l =
    AtLiteral (name_in l.names) l.negated l.atoms l.initial.out l.initial.pen l.a-iterator.left l.pen l.out
