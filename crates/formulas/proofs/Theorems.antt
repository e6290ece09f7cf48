-- What is claimed of the words of forms is so, by computation. Assumes nothing.
use mathlib.Core.Path.{refl}
use Rattle.text.specs.Words.{begins_with_letter}
use Rattle.formulas.specs.Items.{items_of}
use Rattle.formulas.specs.Claims.{SpelledAlike}

pub spelled_alike : SpelledAlike
unfolding begins_with_letter items_of
spelled_alike = refl
