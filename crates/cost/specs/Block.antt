-- The minimal settings of a block of 64.
--
--   settings_at first w n   the settings of the lanes of w below n, in rising order; first is the setting of lane 0
--   lane_settings k         the settings of all lanes of k
--   MinimalIn ..            k has the minimal ones of the first m settings from first on
use Rattle.std.specs.Prelude.{◌≡◌, not, ◌&&◌, List, [], ◌++◌, ℕ, zero, suc, ◌+◌, ◌<◌, ltb}
use Rattle.words.specs.Choice.{cons_if}
use Rattle.words.specs.Bits.{has}
use Rattle.cost.specs.declared.cheapest.Minimals.{Minimals}

unfoldable pub settings_at : ℕ → ℕ → ℕ → List ℕ
settings_at first w zero = []
settings_at first w (suc n) = settings_at first w n ++ cons_if (has w n) (first + n) []

abbrev pub lane_settings : Minimals → List ℕ
lane_settings k = settings_at k.first k.lanes 64

-- e and larger are the lanes that explain and those with a proper subset that explains
pub record MinimalIn (e larger m first : ℕ) (k : Minimals) : Type 0 where
  pub first-is : k.first ≡ first
  pub lanes_are : (j : ℕ) → j < 64 → has k.lanes j ≡ ((has e j && not (has larger j)) && ltb j m)
