-- `wording::put_abducibles` meets its contract. The loop's invariant: what is written so far, and what is left of
-- the setting for the causes left, make up the whole. Assumes nothing.
use Rattle.names.specs.Row.{name_in}
use Rattle.wording.proofs.Abducibles.{AtCause}
use Rattle.wording.proofs.put_abducibles.Given as goal

abbrev pub invariant-loop-atom : goal.invariant-loop-atom
invariant-loop-atom l =
    AtCause (name_in l.names) l.causes.twofold l.causes.all l.setting l.initial.out l.at l.atom-iterator.left l.rest
    l.place l.out
