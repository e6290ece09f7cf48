-- A table whose first entries `fill` has zeroed. Assumes nothing.
use mathlib.Core.Path.{◌≡◌, refl, ap, ◌∙◌}
use mathlib.Core.List.{List, [], ◌∷◌, ◌++◌}
use Prim.Native.Nat.{ℕ, zero, suc, ◌≤◌}
use native.Mathlib.Nat.{not-suc-le-zero, le_of_suc-le-suc}
use lib.ListN.{length, take, drop, replicate}
use lib.Seq.{length-take-le}
use Rattle.table.specs.Filled.{filled}

zeros_front : (n : ℕ) (old : List ℕ) → n ≤ length old → replicate n 0 ++ drop n old ≡ filled n [] old
unfolding filled
zeros_front zero old h = refl
zeros_front (suc n) [] h = absurd (not-suc-le-zero h)
zeros_front (suc n) (o ∷ old) h = ap (λ (l : List ℕ). 0 ∷ l) (zeros_front n old (le_of_suc-le-suc h))

-- zs stands for the first n entries of old, all zeroed
pub zeroed_front : (n : ℕ) (old zs : List ℕ) → n ≤ length old → zs ≡ replicate (length (take n old)) 0
    → zs ++ drop n old ≡ filled n [] old
zeroed_front n old zs h e =
    ap (λ (l : List ℕ). l ++ drop n old) (e ∙ ap (λ (k : ℕ). replicate k 0) (length-take-le n old h))
    ∙ zeros_front n old h
