-- The planes of what settings add, and planes that are the same in each lane.
--
--   Filled causes s x y    lane j of the planes has the facts and the assumptions of setting s + j
--   Even w t               each lane of the plane t has the bits of w
use Rattle.std.specs.Prelude.{◌≡◌, List, ℕ, ◌+◌, ◌<◌}
use Rattle.words.specs.Bits.{has}
use Rattle.program.specs.declared.cause.Causes.{Causes}
use Rattle.program.specs.Setting.{additions_of}
use Rattle.planes.specs.Planes.{at}

pub record Filled (causes : Causes) (s : ℕ) (x y : List ℕ) : Type 0 where
  pub facts_are : (j a : ℕ) → j < 64 → a < 64 → at x j a ≡ has (additions_of causes (s + j)).facts a
  pub assumptions_are : (j a : ℕ) → j < 64 → a < 64 → at y j a ≡ has (additions_of causes (s + j)).assumptions a

abbrev pub Even : ℕ → List ℕ → Type 0
Even w t = (a : ℕ) → a < 64 → (j : ℕ) → j < 64 → at t j a ≡ has w a
