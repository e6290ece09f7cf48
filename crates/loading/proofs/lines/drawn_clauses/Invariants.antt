-- `lines::drawn_clauses` meets its contract. The loop's invariant: of the clauses those behind the ones done are still
-- to be drawn and written. Assumes nothing.
use Rattle.loading.proofs.LineTexts.{ClausesLeft}
use Rattle.loading.proofs.lines.drawn_clauses.Given as goal

abbrev pub invariant-loop-done : goal.invariant-loop-done
invariant-loop-done l = ClausesLeft l.n l.seed l.c l.initial.out l.initial.page l.source.state l._done l.page l.out
