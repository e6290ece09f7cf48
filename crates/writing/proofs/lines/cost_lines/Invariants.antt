-- `lines::cost_lines` meets its contract. The loop's invariant: the lines of
-- the first entries are written. Assumes nothing.
use Rattle.writing.specs.Steps.{cost_texts}
use Rattle.writing.proofs.Growing.{AtEntry}
use Rattle.writing.proofs.lines.cost_lines.Given as goal

abbrev pub invariant-loop-atom : goal.invariant-loop-atom
invariant-loop-atom l =
    AtEntry (λ j. cost_texts l.names l.prices j) l.n l.initial.out l.initial.page l.atom l.page l.out
