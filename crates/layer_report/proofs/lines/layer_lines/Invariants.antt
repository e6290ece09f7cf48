-- The loop's invariant: what is written so far, and the lines from the next atom on, make up the whole.
use Rattle.names.specs.Row.{name_in}
use Rattle.layer_report.proofs.Texts.{AtAtom}
use Rattle.layer_report.proofs.lines.layer_lines.Given as goal

abbrev pub invariant-loop-atom : goal.invariant-loop-atom
invariant-loop-atom l = AtAtom (name_in l.names) l.numbers l.initial.out l.at l.atom l.place l.out
