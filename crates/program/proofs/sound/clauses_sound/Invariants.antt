-- `program::sound::clauses_sound` meets its contract. The loop's invariant: every clause passed is sound (`every`).
-- Assumes nothing.
use mathlib.Core.Path.{◌≡◌}
use mathlib.Core.Bool.{true}
use Rattle.words.specs.Below.{every}
use Rattle.program.proofs.Soundness.{clause_test}
use Rattle.program.proofs.sound.clauses_sound.Given as goal

abbrev pub invariant-loop-k : goal.invariant-loop-k
invariant-loop-k l = every l.k (clause_test l.atoms.count l.clauses.words.now) ≡ true
