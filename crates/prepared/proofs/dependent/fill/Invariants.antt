-- `dependent::fill` meets its contract: the table holds the dependents by the clauses passed. Assumes nothing.
use Rattle.prepared.specs.Dependents.{Dependents}
use Rattle.prepared.proofs.dependent.fill.Given as goal

abbrev pub invariant-loop-k : goal.invariant-loop-k
invariant-loop-k l = Dependents l.clauses.words.now l.k l.dependents
