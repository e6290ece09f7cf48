-- `clause::drawn_literals` meets its contract. The loop's invariant: of the literals those behind the ones done are
-- still to be drawn and written. Assumes nothing.
use Rattle.loading.proofs.LiteralTexts.{LiteralsLeft}
use Rattle.loading.proofs.clause.drawn_literals.Given as goal

abbrev pub invariant-loop-done : goal.invariant-loop-done
invariant-loop-done l = LiteralsLeft l.n l.initial.source.state l.k l.initial.out l.initial.pen l.source.state l._done
    l.pen l.out
