-- What is claimed of loads is so. Assumes nothing.
use mathlib.Core.Path.{refl}
use Rattle.loading.specs.Draws.{state_after}
use Rattle.loading.specs.Claims.{LoadFits, DrawnByHand}
use Rattle.loading.proofs.Sizes.{load_limits, text-size}

pub load_fits : LoadFits
load_fits s n c h = text-size s n c (load_limits n c h)

pub drawn_by_hand : DrawnByHand
unfolding state_after
drawn_by_hand = (refl, refl, refl, refl, refl, refl, refl, refl, refl, refl)
