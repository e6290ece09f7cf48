-- `program::cause::settings` meets its contract. The loop's invariant: the product so far times the settings of the
-- causes left are all settings. Assumes nothing.
use Rattle.program.proofs.Counting.{Multiplied}
use Rattle.program.proofs.cause.settings.Given as goal

abbrev pub invariant-loop-atom : goal.invariant-loop-atom
invariant-loop-atom l = Multiplied l.causes.twofold l.causes.all l.product l.atom-iterator.left
