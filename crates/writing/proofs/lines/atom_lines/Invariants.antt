-- `lines::atom_lines` meets its contract. The loop's invariant: the lines of
-- the first entries are written. Assumes nothing.
use Rattle.writing.specs.Steps.{atom_texts}
use Rattle.writing.proofs.Growing.{AtEntry}
use Rattle.writing.proofs.lines.atom_lines.Given as goal

abbrev pub invariant-loop-a : goal.invariant-loop-a
invariant-loop-a l = AtEntry (λ j. atom_texts l.names j) l.n l.initial.out l.initial.page l.a l.page l.out
