-- `output::put_text` meets its contract. The invariant: the bytes of the text so far are written. Assumes nothing.
use lib.ListN.{take}
use Rattle.output.specs.Writing.{Writes}
use Rattle.output.proofs.put_text.Given as goal

abbrev pub invariant-loop-b : goal.invariant-loop-b
invariant-loop-b l = Writes (take l.b-index l.text) l.initial.out l.at l.place l.out
