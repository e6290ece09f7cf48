-- What holds of each entry of a list. Assumes nothing.
use mathlib.Core.List.{List, [], ◌∷◌, ◌++◌}
use Prim.Native.Nat.{ℕ, zero, suc, ◌<◌}
use native.Mathlib.Nat.{not-suc-le-zero, le_of_suc-le-suc}
use lib.ListN.{length, get_or}

abbrev pub Each : {A : Type 0} → (A → Type 0) → List A → Type 0
Each P [] = Unit {0}
Each P (x ∷ l) = P x × Each P l

module _ {A : Type 0} (P : A → Type 0) where
  pub each_at : (l : List A) (i : ℕ) (d : A) → Each P l → i < length l → P (get_or l i d)
  each_at [] i d h k = absurd (not-suc-le-zero k)
  each_at (x ∷ l) zero d h k = h.0
  each_at (x ∷ l) (suc i) d h k = each_at l i d h.1 (le_of_suc-le-suc k)

  pub each_append : (l m : List A) → Each P l → Each P m → Each P (l ++ m)
  each_append [] m h k = k
  each_append (x ∷ l) m h k = (h.0, each_append l m h.1 k)

  pub each-split : (l m : List A) → Each P (l ++ m) → Each P l × Each P m
  each-split [] m h = (tt, h)
  each-split (x ∷ l) m h = let k = each-split l m h.1 in ((h.0, k.0), k.1)

pub each_gives : {A : Type 0} (P Q : A → Type 0) → ((x : A) → P x → Q x) → (l : List A) → Each P l → Each Q l
each_gives P Q f [] h = tt
each_gives P Q f (x ∷ l) h = (f x h.0, each_gives P Q f l h.1)

pub each_both : {A : Type 0} (P Q : A → Type 0) (l : List A) → Each P l → Each Q l → Each (λ x. P x × Q x) l
each_both P Q [] h k = tt
each_both P Q (x ∷ l) h k = ((h.0, k.0), each_both P Q l h.1 k.1)
