-- `lines::atom_lines` meets its contract. The loop's invariant: the lines of the first atoms are written.
-- Assumes nothing.
use mathlib.Core.List.{map}
use Rattle.writing.specs.Lines.{line_text}
use Rattle.writing.proofs.Growing.{AtEntry}
use Rattle.loading.specs.Load.{atom_lines}
use Rattle.loading.proofs.lines.atom_lines.Given as goal

abbrev pub invariant-loop-atom : goal.invariant-loop-atom
invariant-loop-atom l = AtEntry (λ k. map line_text (atom_lines k)) l.n l.initial.out l.initial.page l.atom l.page l.out
