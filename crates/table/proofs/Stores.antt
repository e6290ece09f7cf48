-- Laws of the list that stores one behind the other leave, for straight stores and for loops that store a list or a
-- row. Assumes nothing.
use mathlib.Core.Path.{◌≡◌, refl, sym, ◌∙◌}
use mathlib.Core.List.{List, [], ◌∷◌, ◌++◌, append_assoc, append-nil}
use Prim.Native.Nat.{ℕ, suc, ◌+◌, ◌-◌, ◌≤◌, ◌<◌}
use native.Mathlib.Nat.{add-suc, suc-add, add-zero, zero-add}
use native.Mathlib.Numerals.{add-one}
use native.Mathlib.Omega.{arith}
use lib.ListN.{length, take, drop, get_or, set, length-set, length-drop, take-append-drop, get_or-eq_default}
use lib.Seq.{sets, sets-eq, take_all, take-suc, length-take-le, drop-drop, drop_at, drop-length}
use lib.Seq.{slice, length-slice, get_or-take, get_or-drop}
use borrow.Rule.Slice.PartMut.{mid_of, put_mid, Post-is}
use Rattle.table.specs.Filled.{padded}
use Rattle.table.proofs.Filled.{padded-length, padded-at}

-- one store more, behind vs
pub sets_push : (vs t : List ℕ) (i x : ℕ) → set (sets t i vs) (i + length vs) x ≡ sets t i (vs ++ (x ∷ []))
sets_push [] t i x = rw (add-zero i)
sets_push (v ∷ vs) t i x = rw (add-suc, ← suc-add) (sets_push vs (set t i v) (suc i) x)

-- the part from place i on: lent, and back as ys
abbrev pub rest_from : ℕ → List ℕ → List ℕ
rest_from i t = mid_of i (length t - i) t

abbrev pub rest_back : ℕ → List ℕ → List ℕ → List ℕ
rest_back i t ys = put_mid i (length t - i) t ys

pub rest-lent : (i : ℕ) (t : List ℕ) → rest_from i t ≡ drop i t
rest-lent i t = take_all (length t - i) (drop i t) (rw length-drop (omega arith))

pub rest_put : (i : ℕ) (t ys : List ℕ) → i ≤ length t → rest_back i t ys ≡ take i t ++ ys
rest_put i t ys h = rw (Post-is i (length t) t h, drop-length, append-nil)

pub rest_back_lem : (i : ℕ) (t ys : List ℕ) → i ≤ length t → drop i (rest_back i t ys) ≡ ys
rest_back_lem i t ys h = rw (rest_put i t ys h) (drop_at (take i t) ys i (length-take-le i t h))

-- a part that is written whole is stored
pub part_stored : (i e : ℕ) (vs t ys : List ℕ) → e ≡ i + length vs → e ≤ length t → ys ≡ vs
    → put_mid i (e - i) t ys ≡ sets t i vs
part_stored i e vs t ys q h p =
    rw (p, Post-is i e t (omega (arith, q)), q)
    (sym (append_assoc (take i t) vs (drop (i + length vs) t)) ∙ sym (sets-eq vs t i (omega (arith, q, h))))

-- stores in it
pub sets-part : (i : ℕ) (vs t u : List ℕ) → i + length vs ≤ length t → take i u ≡ take i t
    → drop i u ≡ sets (drop i t) 0 vs → u ≡ sets t i vs
sets-part i vs t u h p q =
    let rest = sets-eq vs (drop i t) 0 (rw length-drop (omega arith)) in
    sym (take-append-drop i u) ∙ rw (p, q, rest, zero-add, drop-drop, sets-eq vs t i h, append_assoc (take i t) vs)

-- the table t when a loop has stored the first j entries of vs in t₀ from place i on: after a turn, and at the end
module _ (vs t t₀ : List ℕ) (i j : ℕ) (e : t ≡ sets t₀ i (take j vs)) where
  pub stored_more : (x : ℕ) → j < length vs → x ≡ get_or vs j 0 → set t (i + j) x ≡ sets t₀ i (take (j + 1) vs)
  stored_more x h w =
      let k : length (take j vs) ≡ j = length-take-le j vs (omega arith) in
      rw (e, w, add-one, take-suc vs j 0 h) (rw k at (sets_push (take j vs) t₀ i (get_or vs j 0)))

  pub stored_all : length vs ≤ j → t ≡ sets t₀ i vs
  stored_all h = e ∙ rw (take_all j vs h)

-- entry i of a part of s, and past its end
pub slice_at : (s : List ℕ) (a e i : ℕ) → a + i < e → get_or s (a + i) 0 ≡ get_or (slice a e s) i 0
slice_at s a e i h = sym (get_or-drop a (take e s) i 0 ∙ get_or-take e s (a + i) 0 h)

pub slice_past : (s : List ℕ) (a e i : ℕ) → e ≤ length s → e - a ≤ i → 0 ≡ get_or (slice a e s) i 0
slice_past s a e i h l =
    let m : length (slice a e s) ≤ i = rw (length-slice a e s h) l in sym (get_or-eq_default (slice a e s) 0 m)

-- t is t₀ with the first i of n bytes of a padded row stored from a place on: at the loop's start, after a turn and at
-- its end
pub record RowStored (t₀ : List ℕ) (at n : ℕ) (w t : List ℕ) (i : ℕ) : Type 0 where
  pub within : i ≤ n
  pub same_length : length t ≡ length t₀
  pub table_is : t ≡ sets t₀ at (take i (padded n w))

pub row_stored_none : (t₀ : List ℕ) (at n : ℕ) (w : List ℕ) → RowStored t₀ at n w t₀ 0
row_stored_none t₀ at n w = record { within = omega arith; same_length = refl; table_is = refl }

module _ {t₀ : List ℕ} {at n : ℕ} {w t : List ℕ} {i : ℕ} (h : RowStored t₀ at n w t i) where
  pub row_stored_more : {x : ℕ} → i < n → x ≡ get_or w i 0 → RowStored t₀ at n w (set t (at + i) x) (i + 1)
  row_stored_more {x} l e =
      let k : i < length (padded n w) = rw (padded-length n w) l in
      let more = stored_more (padded n w) t t₀ at i h.table_is x k (e ∙ sym (padded-at n w i l)) in
      record { within = omega arith; same_length = simp length-set h.same_length; table_is = more }

  pub row_stored_all : n ≤ i → t ≡ sets t₀ at (padded n w)
  row_stored_all l = stored_all (padded n w) t t₀ at i h.table_is (rw (padded-length n w) l)
