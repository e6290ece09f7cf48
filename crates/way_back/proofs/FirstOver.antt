-- The first of some numbers that is over 11, entry by entry.
--
--   FirstOver l k     of the numbers l, that at place k is the first over 11
-- Assumes nothing.
use mathlib.Core.List.{List, [], ◌∷◌, ◌++◌}
use Prim.Native.Nat.{ℕ, zero, suc, ◌+◌, ◌≤◌, ◌<◌}
use native.Mathlib.Nat.{zero-add, suc-add, not-suc-le-zero, le_of_suc-le-suc}
use native.Mathlib.Omega.{arith}
use lib.ListN.{length}
use Rattle.text.proofs.Each.{Each}
use Rattle.way_back.specs.Bodies.{AllFew, FirstLong}

abbrev pub FirstOver : List ℕ → ℕ → Type 0
FirstOver [] k = ⊥
FirstOver (n ∷ l) zero = 11 < n
FirstOver (n ∷ l) (suc k) = (n ≤ 11) × FirstOver l k

pub all-few : (l : List ℕ) → AllFew l → Each (λ n. n ≤ 11) l
all-few [] h = tt
all-few (n ∷ l) h = (h 0 (omega arith), all-few l (λ k m. h (suc k) (omega arith)))

pub first-over : (l : List ℕ) (k : ℕ) → FirstLong l k → FirstOver l k
first-over [] k f = absurd (not-suc-le-zero f.there)
first-over (n ∷ l) zero f = f.more
first-over (n ∷ l) (suc k) f = (
  f.before-few 0 (omega arith),
  first-over l k (record {
    there = le_of_suc-le-suc f.there;
    more = f.more;
    before-few = λ j h. f.before-few (suc j) (omega arith);
  }),
)

-- numbers in front, none over 11
pub over-behind : (m l : List ℕ) (k : ℕ) → Each (λ n. n ≤ 11) m → FirstOver l k → FirstOver (m ++ l) (length m + k)
over-behind [] l k h f = rw (zero-add k) f
over-behind (n ∷ m) l k h f = rw (suc-add (length m) k) (h.0, over-behind m l k h.1 f)

-- numbers behind
pub over-before : (l m : List ℕ) (k : ℕ) → FirstOver l k → FirstOver (l ++ m) k
over-before [] m k f = absurd f
over-before (n ∷ l) m zero f = f
over-before (n ∷ l) m (suc k) f = (f.0, over-before l m k f.1)
