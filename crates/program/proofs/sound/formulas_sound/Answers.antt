-- `program::sound::formulas_sound` meets its contract: one that fails decides. Assumes nothing.
use mathlib.Core.Path.{sym, ◌∙◌}
use Rattle.words.proofs.Below.{every_false}
use Rattle.program.specs.Sound.{sound_formulas}
use Rattle.program.proofs.sound.formulas_sound.Goals as goal

pub returns-then-not-formula_sound : goal.returns-then-not-formula_sound
unfolding sound_formulas
returns-then-not-formula_sound c =
    sym (every_false _ _ _ c.loop-q-test.true (sym c.formula_sound.ensures ∙ c.if-not-formula_sound.true))
