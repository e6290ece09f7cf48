-- Laws of the lines of a file, by places of the file: a loop over a line, and a line's first byte. Assumes nothing.
use mathlib.Core.Path.{◌≡◌, refl, ◌∙◌}
use mathlib.Core.List.{List, [], ◌∷◌, ◌++◌}
use Prim.Native.Nat.{ℕ, ◌+◌, ◌≤◌, ◌<◌}
use native.Mathlib.Nat.{not-suc-le-zero}
use native.Mathlib.Numerals.{add-one}
use native.Mathlib.Omega.{arith}
use lib.Dec.{eqb}
use lib.ListN.{length, drop, get_or, drop_of_length-le}
use lib.Seq.{slice, length-slice, drop-cons}
use borrow.Author.Tests.{eq-eqb, ne_eqb}
use Rattle.text.specs.Lines.{last_line, lines_from, lines, is_comment}
use Rattle.text.specs.Scanning.{LineEnds}
use Rattle.text.proofs.Slices.{slice_more}

-- the lines of what is left of f from place i on, behind the part l of a line
module _ (f l : List ℕ) (i : ℕ) where
  lines_in : i < length f → (get_or f i 0 ≡ 10 → ⊥)
      → lines_from l (drop i f) ≡ lines_from (l ++ (get_or f i 0 ∷ [])) (drop (i + 1) f)
  unfolding lines_from
  lines_in h n = rw (add-one, drop-cons f i 0 h) (rw (ne_eqb _ _ n))

  pub lines_stop : i < length f → get_or f i 0 ≡ 10 → lines_from l (drop i f) ≡ l ∷ lines (drop (i + 1) f)
  unfolding lines_from
  lines_stop h e = rw (add-one, drop-cons f i 0 h) (rw (eq-eqb _ _ e))

last_line_lem : (l : List ℕ) → 0 < length l → last_line l ≡ l ∷ []
last_line_lem [] n = absurd (not-suc-le-zero n)
last_line_lem (b ∷ l) n = refl

lines_end : (f l : List ℕ) (i : ℕ) → 0 < length l → length f ≤ i
    → lines_from l (drop i f) ≡ l ∷ lines (drop (i + 1) f)
unfolding lines_from
lines_end f l i n h =
    let k : length f ≤ i + 1 = omega arith in
    rw (drop_of_length-le f h, drop_of_length-le f k) (last_line_lem l n)

-- behind a file's end there are no lines
pub lines_none : (f : List ℕ) (i : ℕ) → length f ≤ i → lines (drop i f) ≡ []
unfolding lines_from
lines_none f i h = rw (drop_of_length-le f h)

-- the bytes from place at to place i belong to one line: at the line's start, after a turn and at the line's end
pub record InLine (f : List ℕ) (at i : ℕ) : Type 0 where
  pub onward : at ≤ i
  pub within : i ≤ length f
  pub lines_are : lines (drop at f) ≡ lines_from (slice at i f) (drop i f)

module _ {f : List ℕ} {at i : ℕ} (h : InLine f at i) where
  pub in_line_more : i < length f → (get_or f i 0 ≡ 10 → ⊥) → InLine f at (i + 1)
  in_line_more k n = record {
    onward = omega arith;
    within = omega arith;
    lines_are = h.lines_are ∙ lines_in f (slice at i f) i k n ∙ rw (slice_more f at i h.onward k);
  }

  pub in_line_stops : i < length f → get_or f i 0 ≡ 10 → LineEnds f at i
  in_line_stops k q =
      record { onward = h.onward; within = h.within; lines_are = h.lines_are ∙ lines_stop f (slice at i f) i k q }

  pub in_line_ends : at < length f → length f ≤ i → LineEnds f at i
  in_line_ends l k =
      let n : 0 < length (slice at i f) = rw (length-slice at i f h.within) (omega arith) in
      record { onward = h.onward; within = h.within; lines_are = h.lines_are ∙ lines_end f (slice at i f) i n k }

-- is_comment

pub comment_first : (l : List ℕ) → 0 < length l → is_comment l ≡ eqb (get_or l 0 0) 59
unfolding is_comment
comment_first [] h = absurd (not-suc-le-zero h)
comment_first (b ∷ l) h = refl
