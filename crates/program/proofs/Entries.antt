-- The entries of a table, tested one by one.
--
--   Tested p n k    of n entries the first k pass the test p
-- Assumes nothing.
use mathlib.Core.Path.{◌≡◌, refl, sym}
use mathlib.Core.Bool.{Bool, true, false, not}
use Prim.Native.Nat.{ℕ, ◌+◌, ◌≤◌, ◌<◌}
use native.Mathlib.Omega.{arith}
use Rattle.words.specs.Below.{every}
use Rattle.words.proofs.Below.{every_more, every-end, every_false}
use Rattle.words.proofs.Tests.{failed, passed}

pub record Tested (p : ℕ → Bool) (n k : ℕ) : Type 0 where
  pub low : k ≤ n
  pub pass : every k p ≡ true

pub tested-none : (p : ℕ → Bool) (n : ℕ) → Tested p n 0
tested-none p n = record { low = omega arith; pass = refl }

module _ {p : ℕ → Bool} {n k : ℕ} (h : Tested p n k) where
  pub tested-more : {r : Bool} → k < n → r ≡ p k → not r ≡ false → Tested p n (k + 1)
  tested-more l e t = record { low = omega arith; pass = every_more k p h.pass (passed e t) }

  pub tested-failed : {r : Bool} → k < n → r ≡ p k → not r ≡ true → false ≡ every n p
  tested-failed l e t = sym (every_false n p k l (failed e t))

  pub tested-all : n ≤ k → true ≡ every n p
  tested-all l = every-end n k p h.low l h.pass
