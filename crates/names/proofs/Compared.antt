-- Laws of a word compared with an entry: by its tests, and the outcome `Same` for what a row can hold of a word.
--
--   is_same c   the outcome c is `Same`
-- Assumes nothing.
use mathlib.Core.Path.{◌≡◌, refl, sym, ap, ap₂, ◌∙◌}
use mathlib.Core.Bool.{Bool, true, false, not, ◌&&◌, and_self}
use mathlib.Core.List.{List, [], ◌∷◌}
use Prim.Native.Nat.{ℕ, zero, suc, ◌+◌, ◌*◌, ◌-◌, ◌≤◌, ◌<◌}
use native.Mathlib.Omega.{arith}
use lib.Dec.{eqb}
use lib.ListN.{length, get_or, get_or-eq_default, take, drop, length-take}
use borrow.Author.Tests.{eq-eqb, ne_eqb}
use Rattle.words.specs.Choice.{pick}
use Rattle.words.proofs.Tests.{by_test, failed, passed}
use Rattle.text.specs.Bytes.{same_bytes}
use Rattle.text.proofs.Same.{same-eq}
use Rattle.text.proofs.Slices.{part_slice}
use Rattle.table.specs.Filled.{padded}
use Rattle.table.proofs.Filled.{padded-at}
use Rattle.names.specs.declared.compare.Compared.{Compared}
use Rattle.names.specs.declared.compare.Compared.TheVariants.{EndsDiffer, Another, Same}
use Rattle.names.specs.Row.{row_at}
use Rattle.names.specs.Compared.{last_place, agree_at, ends_agree, compared_as}

pub row_part : (t : List ℕ) (i : ℕ) → take ((i * 16 + 16) - i * 16) (drop (i * 16) t) ≡ row_at t i
row_part t i = part_slice t (i * 16) (i * 16 + 16) (omega arith)

-- ends_agree of a row and the word w, by bytes of the two
module _ (row w : List ℕ) where
  pub ends-none : length w ≡ 0 → eqb (get_or row 0 0) 0 ≡ ends_agree row w
  unfolding ends_agree
  ends-none h = let z : get_or w 0 0 ≡ 0 = get_or-eq_default w 0 (omega arith) in rw (h, z) (sym (and_self _))

  pub ends-first : (get_or row 0 0 ≡ get_or w 0 0 → ⊥) → eqb (get_or row 0 0) (get_or w 0 0) ≡ ends_agree row w
  unfolding ends_agree
  ends-first f = rw (ne_eqb _ _ f)

  pub ends_last : {x : ℕ} → get_or row 0 0 ≡ get_or w 0 0 → x ≡ get_or row (length w - 1) 0
      → eqb x (get_or w (length w - 1) 0) ≡ ends_agree row w
  unfolding ends_agree
  ends_last f q = rw (eq-eqb _ _ f, q)

-- compared_as, from the tests r of the ends and s of all bytes
module _ {r : Bool} (row w : List ℕ) (e : r ≡ ends_agree row w) where
  pub compared_differ : not r ≡ true → EndsDiffer ≡ compared_as row w
  unfolding compared_as
  compared_differ h = rw (failed e h)

  module _ {s : Bool} (f : s ≡ same_bytes row (padded 16 w)) (h : not r ≡ false) where
    pub compared_same : s ≡ true → Same ≡ compared_as row w
    unfolding compared_as
    compared_same k = rw (passed e h, ← f, k)

    pub compared_another : s ≡ false → Another ≡ compared_as row w
    unfolding compared_as
    compared_another k = rw (passed e h, ← f, k)

-- what a row can hold of a word

padded-take : (n : ℕ) (w : List ℕ) → padded n (take n w) ≡ padded n w
unfolding padded
padded-take zero w = refl
padded-take (suc n) [] = refl
padded-take (suc n) (b ∷ w) = ap (λ (l : List ℕ). b ∷ l) (padded-take n w)

-- is_same

pub is_same : Compared → Bool
is_same EndsDiffer = false
is_same Another = false
is_same Same = true

pub not_same : (c : Compared) → (c ≡ Same → ⊥) → is_same c ≡ false
unfolding is_same
not_same EndsDiffer h = refl
not_same Another h = refl
not_same Same h = absurd (h refl)

pub is_same_lem : (c : Compared) → c ≡ Same → is_same c ≡ true
unfolding is_same
is_same_lem c e = rw e

-- a row that is a word of at most 16 bytes has its ends
same_ends : (row w : List ℕ) → length w ≤ 16 → same_bytes row (padded 16 w) ≡ true → ends_agree row w ≡ true
unfolding ends_agree
same_ends row w h e = ap₂ ◌&&◌ (at 0 (omega arith)) (at (last_place w) (omega arith))
  where
    at : (j : ℕ) → j < 16 → agree_at row w j ≡ true
    at j k = rw (same-eq row (padded 16 w) e) (eq-eqb _ _ (padded-at 16 w j k))

-- the row is the word of at most 16 bytes exactly when the outcome is `Same`
same_compared : (row w : List ℕ) → length w ≤ 16 → is_same (compared_as row w) ≡ same_bytes row (padded 16 w)
unfolding is_same compared_as
same_compared row w h =
    by_test (same_bytes row (padded 16 w)) (λ e. rw (e, same_ends row w h e))
    (λ e. rw e (other (ends_agree row w)))
  where
    other : (t : Bool) → is_same (pick t Another EndsDiffer) ≡ false
    other true = refl
    other false = refl

pub front_compared : (row w : List ℕ) → is_same (compared_as row (take 16 w)) ≡ same_bytes row (padded 16 w)
front_compared row w =
    same_compared row (take 16 w) (omega (arith, length-take 16 w)) ∙ ap (same_bytes row) (padded-take 16 w)
