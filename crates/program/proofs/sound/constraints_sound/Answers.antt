-- `program::sound::constraints_sound` meets its contract: one that fails decides. Assumes nothing.
use mathlib.Core.Path.{sym, ◌∙◌}
use Rattle.words.proofs.Below.{every_false}
use Rattle.program.specs.Sound.{sound_constraints}
use Rattle.program.proofs.sound.constraints_sound.Goals as goal

pub returns-then-not-constraint_sound : goal.returns-then-not-constraint_sound
unfolding sound_constraints
returns-then-not-constraint_sound c =
    sym (every_false _ _ _ c.loop-k-test.true (sym c.constraint_sound.ensures ∙ c.if-not-constraint_sound.true))
