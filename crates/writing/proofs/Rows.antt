-- Lists of at most so many entries, of each of which something holds. Assumes nothing.
use mathlib.Core.List.{List, [], ◌∷◌, ◌++◌, map}
use Prim.Native.Nat.{ℕ, zero, suc, ◌+◌, ◌≤◌, ◌<◌}
use native.Mathlib.Omega.{arith}
use lib.ListN.{length, length-append, length-map}
use Rattle.words.specs.Lists.{list_of}
use Rattle.words.proofs.Lists.{list_of-length}
use Rattle.text.proofs.Each.{Each, each_append, each_gives}
use Rattle.reader.proofs.WellFormed.{Rows}

pub each_map : {A B : Type 0} (P : B → Type 0) (f : A → B) (l : List A) → Each (λ x. P (f x)) l → Each P (map f l)
each_map P f [] h = tt
each_map P f (x ∷ l) h = (h.0, each_map P f l h.1)

pub rows-map : {A B : Type 0} (P : B → Type 0) (f : A → B) (m : ℕ) (l : List A) → Rows (λ x. P (f x)) m l
    → Rows P m (map f l)
rows-map P f m l h = record { few = omega (arith, h.few, length-map l f); each = each_map P f l h.each }

pub rows_gives : {A : Type 0} (P Q : A → Type 0) → ((x : A) → P x → Q x) → (m : ℕ) (l : List A) → Rows P m l
    → Rows Q m l
rows_gives P Q f m l h = record { few = h.few; each = each_gives P Q f l h.each }

module _ {A : Type 0} (P : A → Type 0) where
  pub each_list_of : (n : ℕ) (f : ℕ → A) → ((i : ℕ) → i < n → P (f i)) → Each P (list_of n f)
  unfolding list_of
  each_list_of zero f h = tt
  each_list_of (suc n) f h =
      each_append P (list_of n f) (f n ∷ []) (each_list_of n f (λ i l. h i (omega arith))) (h n (omega arith), tt)

  pub rows_list_of : (m n : ℕ) (f : ℕ → A) → n ≤ m → ((i : ℕ) → i < n → P (f i)) → Rows P m (list_of n f)
  rows_list_of m n f l h =
      let e = list_of-length n f in
      record { few = omega arith; each = each_list_of n f h }

  pub rows_append : (m n : ℕ) (l k : List A) → Rows P m l → Rows P n k → Rows P (m + n) (l ++ k)
  rows_append m n l k h i = record {
    few = omega (arith, h.few, i.few, length-append l k);
    each = each_append P l k h.each i.each;
  }

  -- what holds of all
  module _ (all : (x : A) → P x) where
    pub each_all : (l : List A) → Each P l
    each_all [] = tt
    each_all (x ∷ l) = (all x, each_all l)

    pub rows_all : (m : ℕ) (l : List A) → length l ≤ m → Rows P m l
    rows_all m l h = record { few = h; each = each_all l }
