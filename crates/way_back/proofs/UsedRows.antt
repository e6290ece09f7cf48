-- Tables filled with the rows of another: the used entries of both are the same.
--
--   rows_taken     the words of the first n rows of a list are its first entries
--   rows-used      so they are in a table that is filled with them
-- Assumes nothing.
use mathlib.Core.Path.{◌≡◌, sym, ap, ap₂, ◌∙◌}
use mathlib.Core.List.{List, [], ◌∷◌, ◌++◌}
use Prim.Native.Nat.{ℕ, zero, suc, ◌+◌, ◌*◌, ◌/◌, ◌%◌, ◌≤◌, ◌<◌}
use native.Mathlib.Nat.{mul-suc}
use native.Mathlib.Omega.{arith}
use lib.ListN.{length, take, drop, get_or}
use lib.Seq.{take-take, take-add, drop-cons}
use Rattle.words.specs.Lists.{list_of}
use Rattle.words.proofs.Lists.{list_of-length}
use Rattle.table.specs.Filled.{filled}
use Rattle.table.proofs.Filled.{filled-take, padded-front}
use Rattle.table.proofs.Rows.{RowTable, rows-length, rows_push}
use Rattle.store.proofs.Rows.{clause_row_words, constraint_row_words}
use Rattle.writing.specs.Used.{clause_in, constraint_in}

-- a filled table begins with what it is filled with
filled-front : (n : ℕ) (l old : List ℕ) → length l ≤ n → n ≤ length old → take (length l) (filled n l old) ≡ l
filled-front n l old h k =
    sym (take-take (length l) n (filled n l old) h) ∙ ap (take (length l)) (filled-take n l old k) ∙ padded-front n l h

-- row k of l is that of f k
module _ {A : Type 0} {w : ℕ} {words : A → List ℕ} {table : List A → List ℕ} (r : RowTable w words table) (f : ℕ → A)
    (l : List ℕ) where
  pub rows_taken : (n : ℕ) → ((k : ℕ) → k < n → words (f k) ≡ take w (drop (w * k) l))
      → table (list_of n f) ≡ take (w * n) l
  unfolding list_of
  rows_taken zero h = let e : w * 0 ≡ 0 = omega arith in rw e r.none_is
  rows_taken (suc n) h =
      let e : w * suc n ≡ w * n + w = omega (arith, mul-suc w n) in
      rows_push r (list_of n f) (f n)
      ∙ ap₂ ◌++◌ (rows_taken n (λ k m. h k (omega arith))) (h n (omega arith))
      ∙ rw e (sym (take-add (w * n) w l))

  pub rows-used : (n size : ℕ) (old : List ℕ) → ((k : ℕ) → k < n → words (f k) ≡ take w (drop (w * k) l))
      → w * n ≤ size → size ≤ length old → take (w * n) (filled size (table (list_of n f)) old) ≡ take (w * n) l
  rows-used n size old h fits long =
      let e : length (table (list_of n f)) ≡ w * n =
      rows-length r (list_of n f) ∙ ap (λ k. w * k) (list_of-length n f) in
      (rw e at (filled-front size (table (list_of n f)) old (omega arith) long)) ∙ rows_taken n h

-- rows of three words

three-at : (l : List ℕ) (i : ℕ) → i + 3 ≤ length l
    → take 3 (drop i l) ≡ get_or l i 0 ∷ (get_or l (i + 1) 0 ∷ (get_or l (i + 2) 0 ∷ []))
three-at l i h =
    let e : i + 1 ≡ suc i = omega arith in
    let f : i + 2 ≡ suc (suc i) = omega arith in
    rw (e, f)
    (ap (take 3) (drop-cons l i 0 (omega arith))
    ∙ ap (λ m. get_or l i 0 ∷ take 2 m) (drop-cons l (suc i) 0 (omega arith))
    ∙ ap (λ m. get_or l i 0 ∷ (get_or l (suc i) 0 ∷ take 1 m)) (drop-cons l (suc (suc i)) 0 (omega arith)))

pub clause-words : (cl : List ℕ) (k : ℕ) → 3 * k + 3 ≤ length cl
    → clause_row_words (clause_in cl k) ≡ take 3 (drop (3 * k) cl)
clause-words cl k h =
    let first = get_or cl (3 * k) 0 in
    let e : first % 64 + 64 * (first / 64) ≡ first = omega arith in
    rw e (sym (three-at cl (3 * k) h))

pub constraint-words : (co : List ℕ) (k : ℕ) → 3 * k + 3 ≤ length co
    → constraint_row_words (constraint_in co k) ≡ take 3 (drop (3 * k) co)
constraint-words co k h = sym (three-at co (3 * k) h)
