-- `program::cause::firm_heads` meets its contract. The loop's invariant: the word has the heads of the clauses passed
-- that are no assumption. Assumes nothing.
use mathlib.Core.Path.{◌≡◌}
use Rattle.program.specs.Cause.{firm_heads}
use Rattle.program.proofs.cause.firm_heads.Given as goal

abbrev pub invariant-loop-k : goal.invariant-loop-k
invariant-loop-k l = l.heads ≡ firm_heads l.clauses.words.now l.k
