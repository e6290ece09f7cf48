-- `program::sound::formulas_sound` meets its contract. The loop's invariant: every formula passed is sound (`every`).
-- Assumes nothing.
use mathlib.Core.Path.{◌≡◌}
use mathlib.Core.Bool.{true}
use Rattle.words.specs.Below.{every}
use Rattle.program.specs.Sound.{sound_formula}
use Rattle.program.proofs.sound.formulas_sound.Given as goal

abbrev pub invariant-loop-q : goal.invariant-loop-q
invariant-loop-q l = every l.q (sound_formula l.atoms l.nodes l.formula) ≡ true
