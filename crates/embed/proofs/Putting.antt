-- Laws of a list put in front of another, part by part. Assumes nothing.
use mathlib.Core.Path.{◌≡◌, ap, sym, ◌∙◌}
use mathlib.Core.List.{List, ◌++◌, append_assoc, append-nil}
use Prim.Native.Nat.{ℕ, ◌≤◌}
use native.Mathlib.Omega.{arith}
use lib.ListN.{length, take, drop, length-append, drop_of_length-le}
use lib.Seq.{take_at, drop_at, drop-drop}
use Rattle.words.specs.Lists.{over}
use Rattle.table.proofs.Stores.{rest_from, rest_back, rest-lent, rest_put}

-- in all places
pub over-all : (l old : List ℕ) → length old ≤ length l → over l old ≡ l
over-all l old h = rw (drop_of_length-le old h, append-nil)

-- l is in front, and m is put to the part behind it, which is the rest
pub over-behind : (l m old : List ℕ) {k : ℕ} {mid back : List ℕ} → k ≡ length l → mid ≡ over l old
    → back ≡ over m (rest_from k mid) → rest_back k mid back ≡ over (l ++ m) old
over-behind l m old {k} {mid} {back} e f g =
    let h : k ≤ length mid = omega (arith, simp length-append at (ap length f)) in
    let front : take k mid ≡ l = rw f (take_at l _ k (sym e)) in
    let rest : drop k mid ≡ drop (length l) old = rw f (drop_at l _ k (sym e)) in
    rest_put k mid back h ∙ rw (g, rest-lent k mid, front, rest, drop-drop, length-append, append_assoc)
