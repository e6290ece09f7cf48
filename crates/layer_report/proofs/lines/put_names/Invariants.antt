-- The loop's invariant: what is written so far, and the names from the next entry on, make up the whole.
use Rattle.layer_report.proofs.Texts.{AtName}
use Rattle.layer_report.proofs.lines.put_names.Given as goal

abbrev pub invariant-loop-atom : goal.invariant-loop-atom
invariant-loop-atom l = AtName l.names l.atoms l.initial.out l.at l.atom-index l.place l.out
