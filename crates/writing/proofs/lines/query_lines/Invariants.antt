-- `lines::query_lines` meets its contract. The loop's invariant: the lines of
-- the first entries are written. Assumes nothing.
use Rattle.writing.specs.Steps.{query_texts}
use Rattle.writing.proofs.Growing.{AtEntry}
use Rattle.writing.proofs.lines.query_lines.Given as goal

abbrev pub invariant-loop-q : goal.invariant-loop-q
invariant-loop-q l =
    AtEntry (λ j. query_texts l.names l.nodes l.formula j) l.n l.initial.out l.initial.page l.q l.page l.out
