-- `program::sound::settings_few` meets its contract: the number of settings is that of the causes. Assumes nothing.
use mathlib.Core.Path.{ap, ◌∙◌}
use lib.Dec.{leb}
use Rattle.program.specs.declared.cause.Causes.{Causes}
use Rattle.program.specs.Setting.{settings_of}
use Rattle.program.specs.Sound.{few_settings}
use Rattle.program.proofs.Counting.{capped_few}
use Rattle.program.proofs.sound.settings_few.Goals as goal

pub returns : goal.returns
unfolding few_settings
returns c =
    capped_few _ _ c.settings.ensures
    ∙ ap (λ (w : Causes). leb (settings_of w) 59049) c.causes_in-causes.ensures
