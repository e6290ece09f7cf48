-- `program::sound::constraints_sound` meets its contract. The loop's invariant: every constraint passed is sound
-- (`every`). Assumes nothing.
use mathlib.Core.Path.{◌≡◌}
use mathlib.Core.Bool.{true}
use Rattle.words.specs.Below.{every}
use Rattle.program.proofs.Soundness.{constraint_test}
use Rattle.program.proofs.sound.constraints_sound.Given as goal

abbrev pub invariant-loop-k : goal.invariant-loop-k
invariant-loop-k l = every l.k (constraint_test l.atoms.count l.constraints) ≡ true
