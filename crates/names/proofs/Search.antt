-- The search for the row of a name: a row's bytes one after the other, and the rows, each compared with what a row can
-- hold of it.
-- Assumes nothing.
use mathlib.Core.Path.{◌≡◌, refl, sym, ◌∙◌}
use mathlib.Core.Bool.{Bool, true, false}
use mathlib.Core.List.{List}
use mathlib.Core.Logic.{⊎_elim}
use Prim.Native.Nat.{ℕ, ◌+◌, ◌*◌, ◌-◌, ◌≤◌, ◌<◌, min}
use native.Mathlib.Nat.{sub-zero}
use native.Mathlib.Omega.{arith}
use lib.ListN.{length, get_or, take}
use Rattle.std.specs.Prelude.{Option, None, Some, unwrap_or, IfSome, is_some}
use lib.Seq.{take_all}
use Rattle.words.proofs.Tests.{lt-or-le}
use Rattle.words.specs.Below.{first_from}
use Rattle.words.proofs.Below.{first-le, first_stops, first_more, first_ends}
use Rattle.program.specs.Case.{name_size}
use Rattle.text.specs.Bytes.{same_bytes}
use Rattle.text.proofs.Same.{SameFrom, same_none, same_more, same-stops, same_ends}
use Rattle.table.specs.Filled.{padded}
use Rattle.table.proofs.Filled.{padded-length, padded-at}
use Rattle.names.specs.declared.compare.Compared.{Compared}
use Rattle.names.specs.declared.compare.Compared.TheVariants.{Same}
use Rattle.names.specs.Row.{row_at, row_of}
use Rattle.names.specs.Compared.{compared_as}
use Rattle.names.proofs.Compared.{is_same, is_same_lem, not_same, front_compared}

-- row i of t is w if what is left of it from its byte j on is
pub record RowFrom (t : List ℕ) (i : ℕ) (w : List ℕ) (j : ℕ) : Type 0 where
  pub same_from : SameFrom t (i * 16) (i * 16 + 16) (padded 16 w) j

pub row-from-none : (t : List ℕ) (i : ℕ) (w : List ℕ) → i < 64 → name_size ≤ length t → RowFrom t i w 0
row-from-none t i w h k = record { same_from = same_none t (i * 16) _ (padded 16 w) (rw padded-length) (omega arith) }

module _ {t : List ℕ} {i : ℕ} {w : List ℕ} {j : ℕ} (h : RowFrom t i w j) where
  pub row-from-ends : 16 ≤ j → true ≡ same_bytes (row_at t i) (padded 16 w)
  row-from-ends l = same_ends h.same_from (rw padded-length l)

  -- byte j is compared with x, that of the padded name
  module _ {x : ℕ} (l : j < 16) (e : x ≡ get_or w j 0) where
    byte_is : get_or (padded 16 w) j 0 ≡ x
    byte_is = padded-at 16 w j l ∙ sym e

    pub row-from-more : get_or t (i * 16 + j) 0 ≡ x → RowFrom t i w (j + 1)
    row-from-more q = record { same_from = same_more h.same_from (rw padded-length l) (q ∙ sym byte_is) }

    pub row-from-stops : (get_or t (i * 16 + j) 0 ≡ x → ⊥) → false ≡ same_bytes (row_at t i) (padded 16 w)
    row-from-stops q = same-stops h.same_from (rw padded-length l) (λ d. q (d ∙ byte_is))

pub row-le : (t : List ℕ) (n : ℕ) (w : List ℕ) → row_of t n w ≤ n
unfolding row_of
row-le t n w = omega (arith, first-le n (λ i. same_bytes (row_at t i) (padded 16 w)) 0)

-- none of the first i of the n rows of t holds w
pub record Searched (t : List ℕ) (n : ℕ) (w : List ℕ) (i : ℕ) : Type 0 where
  pub within : i ≤ n
  pub row_is : row_of t n w ≡ first_from (n - i) (λ j. same_bytes (row_at t j) (padded 16 w)) i

pub searched_none : (t : List ℕ) (n : ℕ) (w : List ℕ) → Searched t n w 0
unfolding row_of
searched_none t n w = record { within = omega arith; row_is = rw sub-zero }

module _ {t : List ℕ} {n : ℕ} {w : List ℕ} {i : ℕ} (h : Searched t n w i) where
  -- row i is compared with w
  module _ {r : Bool} (l : i < n) (e : r ≡ same_bytes (row_at t i) (padded 16 w)) where
    pub searched_here : r ≡ true → i ≡ row_of t n w
    searched_here s = sym (h.row_is ∙ first_stops n (λ j. same_bytes (row_at t j) (padded 16 w)) i l (sym e ∙ s))

    pub searched_more : r ≡ false → Searched t n w (i + 1)
    searched_more s = record {
      within = omega arith;
      row_is = h.row_is ∙ first_more n (λ j. same_bytes (row_at t j) (padded 16 w)) i l (sym e ∙ s);
    }

  pub searched_all : n ≤ i → n ≡ row_of t n w
  searched_all l =
      let f = first_ends n (λ j. same_bytes (row_at t j) (padded 16 w)) i l in
      let e = h.row_is ∙ f in
      let k = h.within in
      omega arith

-- row i is compared with what a row can hold of w, and c is the outcome
module _ {t w front : List ℕ} {n i : ℕ} {c : Compared} (h : Searched t n w i) (k : i < n)
    (q : front ≡ take 16 w) (m : c ≡ compared_as (row_at t i) front) where
  outcome-is : is_same c ≡ same_bytes (row_at t i) (padded 16 w)
  outcome-is = rw (m, q) (front_compared (row_at t i) w)

  pub compared_here : c ≡ Same → i ≡ row_of t n w
  compared_here s = searched_here h k outcome-is (is_same_lem c s)

  pub compared_more : (c ≡ Same → ⊥) → Searched t n w (i + 1)
  compared_more s = searched_more h k outcome-is (not_same c s)

-- what a row can hold of w, by how long it is
pub front_is : (w : List ℕ) {n : ℕ} → n ≡ min (length w) 16 → take n w ≡ take 16 w
front_is w {n} e = ⊎_elim short long (lt-or-le (length w) 16)
  where
    short : length w < 16 → take n w ≡ take 16 w
    short h = rw (take_all n w (omega arith), take_all 16 w (omega arith)) refl

    long : 16 ≤ length w → take n w ≡ take 16 w
    long h = let q : n ≡ 16 = omega arith in rw q refl

-- r is the row k of the n rows that was found, or none

pub found_some : (r : Option ℕ) {n k : ℕ} → unwrap_or r n ≡ k → IfSome r (λ i. i < n) → is_some r ≡ true → k < n
found_some None e h t = cc
found_some (Some i) e h t = omega arith

pub found_none : (r : Option ℕ) {n k : ℕ} → unwrap_or r n ≡ k → is_some r ≡ false → n ≤ k
found_none None e t = omega arith
found_none (Some i) e t = cc
