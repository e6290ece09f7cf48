-- `apply` meets its contract: the loop walks the clauses (`walked` of Passes.antt) and keeps the two words disjoint,
-- and what it comes to is counted against i. Assumes nothing.
use mathlib.Core.Path.{◌≡◌}
use Rattle.logic.specs.Interpretation.{value_at, Disjoint}
use Rattle.settle.proofs.Passes.{walked}
use Rattle.settle.proofs.step.apply.Given as goal

abbrev pub invariant-loop-k : goal.invariant-loop-k
invariant-loop-k l =
    Disjoint l.next × (l.next ≡ walked (value_at l.i) l.clauses.words.now l.initial.next l.k)
