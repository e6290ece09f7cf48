-- Parts of a list: with one entry more, of a given length, and lent. Assumes nothing.
use mathlib.Core.Path.{◌≡◌, sym}
use mathlib.Core.List.{List, [], ◌∷◌, ◌++◌}
use Prim.Native.Nat.{ℕ, zero, suc, ◌+◌, ◌-◌, ◌≤◌, ◌<◌}
use native.Mathlib.Nat.{zero-add, suc-add}
use native.Mathlib.Numerals.{add-one}
use native.Mathlib.Omega.{arith}
use lib.ListN.{length, take, drop, get_or}
use lib.Seq.{slice, take-suc, take-nil, drop-append-le, length-take-le}

pub slice_more : (l : List ℕ) (a i : ℕ) → a ≤ i → i < length l → slice a (i + 1) l ≡ slice a i l ++ (get_or l i 0 ∷ [])
slice_more l a i h k =
    let e : length (take i l) ≡ i = length-take-le i l (omega arith) in
    let f : a ≤ length (take i l) = omega arith in
    rw (add-one, take-suc l i 0 k, drop-append-le a (take i l) (get_or l i 0 ∷ []) f)

pub slice_take : (a n : ℕ) (l : List ℕ) → slice a (a + n) l ≡ take n (drop a l)
slice_take zero n l = rw zero-add
slice_take (suc a) n [] = rw suc-add (sym (take-nil n))
slice_take (suc a) n (x ∷ l) = rw suc-add (slice_take a n l)

-- the part of a list that is lent, as `&l[a..e]`, is the slice
pub part_slice : (l : List ℕ) (a e : ℕ) → a ≤ e → take (e - a) (drop a l) ≡ slice a e l
part_slice l a e h = let s : a + (e - a) ≡ e = omega arith in rw s at (sym (slice_take a (e - a) l))
