-- `program::cause::added` meets its contract. The loop's invariant: what is added so far and what is left of the
-- setting make up the whole setting. Assumes nothing.
use Rattle.program.proofs.Settings.{Walked}
use Rattle.program.proofs.cause.added.Given as goal

abbrev pub invariant-loop-atom : goal.invariant-loop-atom
invariant-loop-atom l = Walked l.causes.twofold l.causes.all l.setting l.sum l.rest l.atom-iterator.left
