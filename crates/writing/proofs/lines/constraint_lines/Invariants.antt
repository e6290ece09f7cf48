-- `lines::constraint_lines` meets its contract. The loop's invariant: the lines of
-- the first entries are written. Assumes nothing.
use Rattle.writing.specs.Steps.{constraint_texts}
use Rattle.writing.proofs.Growing.{AtEntry}
use Rattle.writing.proofs.lines.constraint_lines.Given as goal

abbrev pub invariant-loop-k : goal.invariant-loop-k
invariant-loop-k l =
    AtEntry (λ j. constraint_texts l.names l.constraints j) l.n l.initial.out l.initial.page l.k l.page l.out
