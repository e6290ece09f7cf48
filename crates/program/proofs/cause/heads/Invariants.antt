-- `program::cause::heads` meets its contract. The loop's invariant: the word has the heads of the clauses passed.
-- Assumes nothing.
use mathlib.Core.Path.{◌≡◌}
use Rattle.program.specs.Program.{heads_of}
use Rattle.program.proofs.cause.heads.Given as goal

abbrev pub invariant-loop-k : goal.invariant-loop-k
invariant-loop-k l = l.heads ≡ heads_of l.clauses.words.now l.k
