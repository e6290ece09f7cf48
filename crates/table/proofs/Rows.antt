-- Laws of tables that have a row of w words for each entry of a list.
--
--   RowTable w words table    table l has the rows of l one after the other: that of x is words x
-- Assumes nothing.
use mathlib.Core.Path.{◌≡◌, ◌∙◌}
use mathlib.Core.List.{List, [], ◌∷◌, ◌++◌, append-nil, append_assoc}
use Prim.Native.Nat.{ℕ, zero, suc, ◌+◌, ◌*◌, ◌≤◌, ◌<◌}
use native.Mathlib.Nat.{not-suc-le-zero, le_of_suc-le-suc, mul-suc}
use native.Mathlib.Omega.{arith}
use lib.ListN.{length, get_or, length-append, get_or-append}
use lib.Seq.{sets, get_or-append-add}
use Rattle.table.specs.Filled.{filled, padded}
use Rattle.table.proofs.Filled.{filled_at, filled-padded}
use Rattle.table.proofs.Kept.{sets-filled}

pub record RowTable {A : Type 0} (w : ℕ) (words : A → List ℕ) (table : List A → List ℕ) : Type 0 where
  pub none_is : table [] ≡ []
  pub more_are : (x : A) (l : List A) → table (x ∷ l) ≡ words x ++ table l
  pub width : (x : A) → length (words x) ≡ w

module _ {A : Type 0} {w : ℕ} {words : A → List ℕ} {table : List A → List ℕ} (r : RowTable w words table) where
  pub rows-length : (l : List A) → length (table l) ≡ w * length l
  rows-length [] = rw r.none_is (omega arith)
  rows-length (x ∷ l) =
      let e = rows-length l in
      let f = r.width x in
      rw (r.more_are x l, length-append, mul-suc) (omega arith)

  pub rows_push : (l : List A) (x : A) → table (l ++ (x ∷ [])) ≡ table l ++ words x
  rows_push [] x = r.more_are x [] ∙ rw (r.none_is, append-nil)
  rows_push (y ∷ l) x = rw (r.more_are y (l ++ (x ∷ [])), rows_push l x, r.more_are y l, append_assoc)

  -- word j of row k
  row_at : (d : A) (l : List A) (k j : ℕ) → k < length l → j < w
      → get_or (table l) (w * k + j) 0 ≡ get_or (words (get_or l k d)) j 0
  row_at d [] k j h m = absurd (not-suc-le-zero h)
  row_at d (x ∷ l) zero j h m =
      let e : w * 0 + j ≡ j = omega arith in
      let n = r.width x in
      rw (r.more_are x l, e) (get_or-append (words x) (table l) 0 j (omega arith))
  row_at d (x ∷ l) (suc k) j h m =
      let e : w * suc k + j ≡ length (words x) + (w * k + j) = omega (arith, r.width x, mul-suc w k) in
      rw (r.more_are x l, e, get_or-append-add) (row_at d l k j (le_of_suc-le-suc h) m)

  -- in a lent table
  pub filled-row-at : (n : ℕ) (d : A) (l : List A) (old : List ℕ) (k j i : ℕ) → n ≤ length old → i < n → k < length l
      → j < w → i ≡ w * k + j → get_or (filled n (table l) old) i 0 ≡ get_or (words (get_or l k d)) j 0
  filled-row-at n d l old k j i long fits h m e =
      filled_at n (table l) old i fits long ∙ rw e (row_at d l k j h m)

  -- the row of x is vs and zeros, and vs is stored behind the rows of l: the zeros stand there
  pub row_stored : (n : ℕ) (l : List A) (x : A) (vs t : List ℕ) → words x ≡ padded w vs → length vs ≤ w
      → w * length l + w ≤ n → n ≤ length t → t ≡ filled n (table l) t
      → let u = sets t (w * length l) vs in u ≡ filled n (table (l ++ (x ∷ []))) u
  row_stored n l x vs t p few h k e =
      let s = rows-length l in
      rw (← rows-length l, rows_push l x, p)
      (sets-filled n (table l) vs t (omega arith) k e ∙ rw (filled-padded n w (table l) vs _ few))
