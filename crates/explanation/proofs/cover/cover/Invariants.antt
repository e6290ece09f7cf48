-- `cover` meets its contract: the word takes in the lanes of `dropped` until nothing is added (`Stands`). The measure
-- is the number of lanes it lacks. Assumes nothing.
use mathlib.Core.Path.{◌≡◌}
use mathlib.Core.List.{List}
use Prim.Native.Nat.{ℕ, ◌-◌, ◌<◌, ◌^◌}
use lib.Count.{ones}
use lib.ListN.{length, set}
use Rattle.explanation.proofs.Larger.{Stands}
use Rattle.explanation.proofs.cover.cover.Given as goal

-- row₀ is the row at the loop's start, whose word b is e; r is the row at entry
abbrev pub invariant-loop-word : goal.invariant-loop-word
invariant-loop-word l = (length l.row ≡ 1848) × (l.word < 2 ^ 64)
    × ((r : List ℕ) → l.b < length r → l.initial.row ≡ set r l.b l.e
    → Stands r l.b l.e l.causes l.weights l.added.facts l.added.assumptions l.row l.word)

abbrev pub decreases-loop-word : goal.decreases-loop-word
decreases-loop-word l = 64 - ones l.word
