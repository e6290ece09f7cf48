-- Laws of `first_failed` and `first_of`: a check that fails decides, one that passes leaves it to those behind it, and
-- where none is refused each passes. Assumes nothing.
use mathlib.Core.Path.{◌≡◌, refl, ap}
use mathlib.Core.Bool.{Bool, true, false, ◌&&◌}
use mathlib.Core.List.{List, [], ◌∷◌, ◌++◌}
use Prim.Native.Nat.{ℕ, zero, suc, ◌<◌}
use native.Mathlib.Omega.{arith}
use lib.Dec.{ltb}
use borrow.Author.Tests.{ltb-true}
use Rattle.words.specs.Choice.{pick, first_of, Check, check, first_failed}
use Rattle.words.proofs.Tests.{and_true_l, and_true_r}

module _ (n : ℕ) {t : Bool} (l : List Check) where
  pub first-failed-here : t ≡ false → first_failed (check n t ∷ l) ≡ n
  first-failed-here e = ap (λ (b : Bool). pick b (first_failed l) n) e

  pub first-failed-behind : t ≡ true → first_failed (check n t ∷ l) ≡ first_failed l
  first-failed-behind e = ap (λ (b : Bool). pick b (first_failed l) n) e

-- no check has the number 0
abbrev pub numbered : List Check → Bool
numbered [] = true
numbered (k ∷ l) = ltb 0 k.number && numbered l

-- each check passes
abbrev pub Passes : List Check → Type 0
Passes [] = Unit {0}
Passes (k ∷ l) = (k.passes ≡ true) × Passes l

pub none-failed : (l : List Check) → numbered l ≡ true → first_failed l ≡ 0 → Passes l
none-failed [] n e = tt
none-failed (k ∷ l) n e = go k.passes refl (none-failed l (and_true_r (ltb 0 k.number) (numbered l) n)) e
  where
    some : ltb 0 k.number ≡ true
    some = and_true_l (ltb 0 k.number) (numbered l) n

    go : (t : Bool) → k.passes ≡ t → (first_failed l ≡ 0 → Passes l) → pick t (first_failed l) k.number ≡ 0
        → (k.passes ≡ true) × Passes l
    go true q f d = (q, f d)
    go false q f d = absurd (omega (arith, ltb-true 0 k.number some))

-- the checks l decide before the checks m
pub first-failed-append : (l m : List Check) → numbered l ≡ true
    → first_failed (l ++ m) ≡ first_of (first_failed l) (first_failed m)
first-failed-append [] m n = refl
first-failed-append (k ∷ l) m n =
    go k.passes k.number (ltb-true 0 k.number (and_true_l (ltb 0 k.number) (numbered l) n))
    (first-failed-append l m (and_true_r (ltb 0 k.number) (numbered l) n))
  where
    go : (t : Bool) (i : ℕ) → 0 < i → first_failed (l ++ m) ≡ first_of (first_failed l) (first_failed m)
        → pick t (first_failed (l ++ m)) i ≡ first_of (pick t (first_failed l) i) (first_failed m)
    go true i h ih = ih
    go false zero h ih = absurd (omega arith)
    go false (suc i) h ih = refl

pub first_of-none : (n m : ℕ) → first_of n m ≡ 0 → (n ≡ 0) × (m ≡ 0)
first_of-none zero m e = (refl, e)
first_of-none (suc n) m e = absurd (omega arith)
