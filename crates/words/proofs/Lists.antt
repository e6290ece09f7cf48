-- Laws of a list by its entries. Assumes nothing.
use mathlib.Core.Path.{◌≡◌, refl, ap, ◌∙◌}
use mathlib.Core.List.{List, [], ◌∷◌, ◌++◌, map, map-append}
use mathlib.Core.Logic.{⊎_elim}
use Prim.Native.Nat.{ℕ, zero, suc, ◌+◌, ◌≤◌, ◌<◌}
use native.Mathlib.Nat.{not-suc-le-zero, le_of_suc-le-suc, eq-or-lt_of_le}
use native.Mathlib.Numerals.{add-one}
use native.Mathlib.Omega.{arith}
use lib.ListN.{length, take, get_or, length-append, get_or-append}
use lib.Seq.{get_or_at, take-suc, take-length}
use Rattle.words.specs.Lists.{list_of}

module _ {A : Type 0} where
  pub list_of-none : (f : ℕ → A) → list_of 0 f ≡ []
  unfolding list_of
  list_of-none f = refl

  pub list_of-one : (f : ℕ → A) → list_of 1 f ≡ (f 0 ∷ [])
  unfolding list_of
  list_of-one f = refl

  pub list_of-length : (n : ℕ) (f : ℕ → A) → length (list_of n f) ≡ n
  unfolding list_of
  list_of-length zero f = refl
  list_of-length (suc n) f = length-append (list_of n f) _ ∙ add-one _ ∙ ap suc (list_of-length n f)

  pub list_of-at : (n : ℕ) (f : ℕ → A) (i : ℕ) (d : A) → i < n → get_or (list_of n f) i d ≡ f i
  unfolding list_of
  list_of-at zero f i d l = absurd (not-suc-le-zero l)
  list_of-at (suc n) f i d l =
      ⊎_elim
      (λ (q : i ≡ n). rw q (get_or_at (list_of n f) (f n) [] d n (list_of-length n f)))
      (λ (q : i < n).
      get_or-append (list_of n f) (f n ∷ []) d i (omega (arith, list_of-length n f)) ∙ list_of-at n f i d q)
      (eq-or-lt_of_le (le_of_suc-le-suc l))

  pub list_of_ext : (n : ℕ) (f g : ℕ → A) → ((i : ℕ) → i < n → f i ≡ g i) → list_of n f ≡ list_of n g
  unfolding list_of
  list_of_ext zero f g e = refl
  list_of_ext (suc n) f g e = rw (list_of_ext n f g (λ i l. e i (omega arith)), e n (omega arith))

  -- one entry more
  pub list_of-more : (n : ℕ) (f : ℕ → A) → list_of (n + 1) f ≡ list_of n f ++ (f n ∷ [])
  unfolding list_of
  list_of-more n f = rw add-one

  pub list_of-map : {B : Type 0} (n : ℕ) (f : ℕ → A) (g : A → B) → map g (list_of n f) ≡ list_of n (λ i. g (f i))
  unfolding list_of
  list_of-map zero f g = refl
  list_of-map (suc n) f g = map-append g (list_of n f) (f n ∷ []) ∙ rw (list_of-map n f g)

-- the entries of l
module _ {A : Type 0} (l : List A) (d : A) (f : ℕ → A) (same : (k : ℕ) → k < length l → f k ≡ get_or l k d) where
  list_of-first : (k : ℕ) → k ≤ length l → list_of k f ≡ take k l
  unfolding list_of
  list_of-first zero h = refl
  list_of-first (suc k) h = rw (list_of-first k (omega arith), same k h, take-suc l k d h)

  pub list_of_is : list_of (length l) f ≡ l
  list_of_is = list_of-first (length l) (omega arith) ∙ take-length l

-- a list that grows by an entry at a time
pub list_of-grown : {A : Type 0} (g : ℕ → List A) (f : ℕ → A) → g 0 ≡ []
    → ((k : ℕ) → g (suc k) ≡ g k ++ (f k ∷ [])) → (k : ℕ) → g k ≡ list_of k f
unfolding list_of
list_of-grown g f none more zero = none
list_of-grown g f none more (suc k) = more k ∙ ap (λ l. l ++ (f k ∷ [])) (list_of-grown g f none more k)
