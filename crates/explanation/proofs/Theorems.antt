-- The claims of specs/Claims.antt. Assumes nothing.
use mathlib.Core.Path.{refl}
use Prim.Native.Nat.{zero, suc}
use Rattle.logic.specs.declared.value.Value.TheVariants.{False, Unknown, True}
use Rattle.explanation.specs.Claims.{MetByHead}

pub met_by_head : MetByHead
met_by_head zero False = refl
met_by_head zero Unknown = refl
met_by_head zero True = refl
met_by_head (suc k) False = refl
met_by_head (suc k) Unknown = refl
met_by_head (suc k) True = refl
