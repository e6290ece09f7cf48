-- Laws of what every operation on a case asks first: which refusal is due, and what holds where none is.
-- Assumes nothing.
use mathlib.Core.Path.{◌≡◌, refl, sym, ap}
use mathlib.Core.Bool.{Bool, true, false, true≢false}
use mathlib.Core.List.{List, ◌∷◌}
use Rattle.std.specs.Prelude.{Ok, Err, is_ok, ⊤}
use Rattle.words.specs.Choice.{Check, check, first_failed}
use Rattle.refusals.specs.declared.Refusal.{Refusal}
use Rattle.refusals.specs.Refusal.{number_of, refused_as}
use Rattle.settle.specs.Check.{checked}

-- its refusal is the first of any checks that begin with these two
pub refused_first : (full sound : Bool) (rest : List Check) (e : Refusal) → checked full sound ≡ Err e
    → number_of e ≡ first_failed (check 1 full ∷ check 13 sound ∷ rest)
refused_first false sound rest e q = ap refused_as (sym q)
refused_first true false rest e q = ap refused_as (sym q)
refused_first true true rest e q = absurd (true≢false (ap is_ok q))

pub accepted : (full sound : Bool) (u : ⊤) → checked full sound ≡ Ok u → (full ≡ true) × (sound ≡ true)
accepted false sound u q = absurd (true≢false (sym (ap is_ok q)))
accepted true false u q = absurd (true≢false (sym (ap is_ok q)))
accepted true true u q = (refl, refl)
