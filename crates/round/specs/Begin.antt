-- The first round in lanes.
--
--   decided_at t f j a   the atom a is decided in lane j
--   Opens ..             the planes of the first round, and which lanes and atoms it changed
use Rattle.std.specs.Prelude.{◌≡◌, Bool, true, not, ◌&&◌, ◌||◌, List, ℕ, ◌<◌}
use Rattle.words.specs.Below.{any}
use Rattle.words.specs.Bits.{has}
use Rattle.round.specs.declared.redo.Changed.{Changed}
use Rattle.planes.specs.Planes.{at, Sizes}

abbrev pub decided_at : List ℕ → List ℕ → ℕ → ℕ → Bool
decided_at t f j a = at t j a || at f j a

pub record Opens (ot of oh x y t f : List ℕ) (r : Changed) : Type 0 where
  pub sizes : Sizes t f
  pub trues_are : (a : ℕ) → a < 64 → (j : ℕ) → j < 64 → at t j a ≡ (at ot j a || at x j a)
  pub falses_are : (a : ℕ) → a < 64 → (j : ℕ) → j < 64
      → at f j a ≡ ((at of j a || at y j a && not (at oh j a)) && not (at x j a))
  pub lanes_are : (j : ℕ) → j < 64 → has r.lanes j ≡ any 64 (decided_at t f j)
  pub atoms_are : (j a : ℕ) → j < 64 → a < 64 → decided_at t f j a ≡ true → has r.atoms a ≡ true
