-- `weigh` meets its contract: the causes passed have their weights, and those left have theirs from the weight
-- reached on (`Weighed`). Assumes nothing.
use Rattle.explanation.proofs.Weighing.{Weighed}
use Rattle.explanation.proofs.weights.weigh.Given as goal

abbrev pub invariant-loop-atom : goal.invariant-loop-atom
invariant-loop-atom l =
    Weighed l.causes.twofold l.causes.all l.atom-iterator.left l.weight l.weights
