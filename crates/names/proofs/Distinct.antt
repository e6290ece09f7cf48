-- Names that differ from each other.
--
--   Distinct ns     no name stands twice in ns
-- Assumes nothing.
use mathlib.Core.Path.{◌≡◌}
use mathlib.Core.List.{List, []}
use Prim.Native.Nat.{ℕ, ◌<◌}
use lib.ListN.{length, get_or}

unfoldable pub Distinct : List (List ℕ) → Type 0
Distinct ns = (i j : ℕ) → i < j → j < length ns → get_or ns i [] ≡ get_or ns j [] → ⊥
