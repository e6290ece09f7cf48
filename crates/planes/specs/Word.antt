-- The words of an atom after the first round, from those with nothing added and what is added.
use Rattle.std.specs.Prelude.{◌≡◌, not, ◌&&◌, ◌||◌, ℕ, ◌<◌}
use Rattle.words.specs.Bits.{has}
use Rattle.planes.specs.declared.plane.Lanes.{Lanes}

pub record OpensWord (t f head fact assumed : ℕ) (r : Lanes) : Type 0 where
  pub trues_are : (j : ℕ) → j < 64 → has r.trues j ≡ (has t j || has fact j)
  pub falses_are : (j : ℕ) → j < 64
      → has r.falses j ≡ ((has f j || has assumed j && not (has head j)) && not (has fact j))
