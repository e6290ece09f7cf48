-- Laws of tables of which only the first n entries change: u ≡ filled n u t says that u is t behind them, and
-- t ≡ filled n l t that t has l and zeros in them. Assumes nothing.
use mathlib.Core.Path.{◌≡◌, refl, sym, ap, ap₂, ◌∙◌}
use mathlib.Core.List.{List, [], ◌∷◌, ◌++◌}
use Prim.Native.Nat.{ℕ, zero, suc, ◌+◌, ◌≤◌, ◌<◌}
use native.Mathlib.Nat.{not-suc-le-zero, le_of_suc-le-suc}
use native.Mathlib.Omega.{arith}
use lib.ListN.{length, get_or, set}
use lib.Seq.{sets}
use Rattle.table.specs.Filled.{filled}
use Rattle.table.proofs.Filled.{filled-length, filled-again, filled_pushes}

pub kept_refl : (n : ℕ) (t : List ℕ) → t ≡ filled n t t
unfolding filled
kept_refl zero t = refl
kept_refl (suc n) [] = refl
kept_refl (suc n) (x ∷ t) = ap (λ l. x ∷ l) (kept_refl n t)

pub kept-filled : (n : ℕ) (l t : List ℕ) → filled n l t ≡ filled n (filled n l t) t
unfolding filled
kept-filled zero l t = refl
kept-filled (suc n) l [] = refl
kept-filled (suc n) [] (o ∷ t) = ap (λ m. 0 ∷ m) (kept-filled n [] t)
kept-filled (suc n) (x ∷ l) (o ∷ t) = ap (λ m. x ∷ m) (kept-filled n l t)

module _ (n : ℕ) (t : List ℕ) {u : List ℕ} (h : u ≡ filled n u t) where
  pub kept-length : length u ≡ length t
  kept-length = ap length h ∙ filled-length n u t

  -- what fills u fills t
  filled-kept : (l : List ℕ) → filled n l u ≡ filled n l t
  filled-kept l = ap (filled n l) h ∙ filled-again n l u t

  pub kept_trans : {v : List ℕ} → v ≡ filled n v u → v ≡ filled n v t
  kept_trans {v} k = k ∙ filled-kept v

-- stores among the first n entries

pub set-kept : (n : ℕ) (t : List ℕ) (i x : ℕ) → i < n → set t i x ≡ filled n (set t i x) t
unfolding filled
set-kept zero t i x h = absurd (not-suc-le-zero h)
set-kept (suc n) [] i x h = refl
set-kept (suc n) (o ∷ t) zero x h = ap (λ l. x ∷ l) (kept_refl n t)
set-kept (suc n) (o ∷ t) (suc i) x h = ap (λ l. o ∷ l) (set-kept n t i x (le_of_suc-le-suc h))

pub sets-kept : (n : ℕ) (vs t : List ℕ) (i : ℕ) → i + length vs ≤ n → sets t i vs ≡ filled n (sets t i vs) t
sets-kept n [] t i h = kept_refl n t
sets-kept n (v ∷ vs) t i h =
    kept_trans n t (set-kept n t i v (omega arith)) (sets-kept n vs (set t i v) (suc i) (omega arith))

-- a table that was filled with l has l
filled-has : (n : ℕ) (l t : List ℕ) {u : List ℕ} → u ≡ filled n l t → u ≡ filled n l u
filled-has n l t e = e ∙ sym (ap (filled n l) e ∙ filled-again n l l t)

-- stores behind the entries l of a table
pub sets-filled : (n : ℕ) (l vs t : List ℕ) → length l + length vs ≤ n → n ≤ length t → t ≡ filled n l t
    → sets t (length l) vs ≡ filled n (l ++ vs) (sets t (length l) vs)
sets-filled n l vs t h k e =
    filled-has n (l ++ vs) t (ap (λ m. sets m (length l) vs) e ∙ filled_pushes n l vs t h k)

-- fillings that agree up to the size are one
pub filled_ext : (n : ℕ) (l m old : List ℕ) → ((i : ℕ) → i < n → get_or l i 0 ≡ get_or m i 0)
    → filled n l old ≡ filled n m old
unfolding filled
filled_ext zero l m old h = refl
filled_ext (suc n) l m [] h = refl
filled_ext (suc n) [] [] (o ∷ old) h = refl
filled_ext (suc n) [] (y ∷ m) (o ∷ old) h =
    ap₂ ◌∷◌ (h 0 (omega arith)) (filled_ext n [] m old (λ i k. h (suc i) (omega arith)))
filled_ext (suc n) (x ∷ l) [] (o ∷ old) h =
    ap₂ ◌∷◌ (h 0 (omega arith)) (filled_ext n l [] old (λ i k. h (suc i) (omega arith)))
filled_ext (suc n) (x ∷ l) (y ∷ m) (o ∷ old) h =
    ap₂ ◌∷◌ (h 0 (omega arith)) (filled_ext n l m old (λ i k. h (suc i) (omega arith)))

-- a table that has the entries of l up to the size is filled with it
pub filled_as : (n : ℕ) (l t : List ℕ) → ((i : ℕ) → i < n → get_or t i 0 ≡ get_or l i 0) → t ≡ filled n l t
filled_as n l t h = kept_refl n t ∙ filled_ext n t l t h
