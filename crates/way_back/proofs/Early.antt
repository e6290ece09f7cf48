-- A file within the limit is read into tables that fit. Assumes nothing.
use mathlib.Core.Path.{◌≡◌}
use mathlib.Core.Bool.{true}
use mathlib.Core.List.{List}
use Prim.Native.Nat.{ℕ, ◌≤◌}
use lib.ListN.{length}
use borrow.Author.Tests.{le-leb}
use Rattle.store.specs.Lent.{Lent}
use Rattle.reader.specs.Operation.{tables_fit, early_refusal}

pub early-none : (f : List ℕ) (t : Lent) → tables_fit t ≡ true → length f ≤ 32768 → early_refusal f t ≡ 0
unfolding early_refusal
early-none f t fit h = rw (fit, le-leb (length f) 32768 h)
