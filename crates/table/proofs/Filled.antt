-- Laws of tables whose first entries are filled, and of padded rows. Assumes nothing.
use mathlib.Core.Path.{◌≡◌, refl, sym, ap, ◌∙◌}
use mathlib.Core.List.{List, [], ◌∷◌, ◌++◌, append_assoc, append-nil}
use Prim.Native.Nat.{ℕ, zero, suc, ◌+◌, ◌-◌, ◌≤◌, ◌<◌}
use native.Mathlib.Nat.{not-suc-le-zero, le_of_suc-le-suc, suc-add, zero-add}
use native.Mathlib.Numerals.{add-one}
use native.Mathlib.Omega.{arith}
use lib.ListN.{length, take, drop, get_or, set, replicate, length-append}
use lib.Seq.{sets, take_all, take_at}
use Rattle.table.specs.Filled.{filled, padded}

-- filled, and the length of what is padded

pub padded-length : (n : ℕ) (l : List ℕ) → length (padded n l) ≡ n
unfolding padded
padded-length zero l = refl
padded-length (suc n) [] = ap suc (padded-length n [])
padded-length (suc n) (x ∷ l) = ap suc (padded-length n l)

pub filled-length : (n : ℕ) (l old : List ℕ) → length (filled n l old) ≡ length old
unfolding filled
filled-length zero l old = refl
filled-length (suc n) l [] = refl
filled-length (suc n) [] (o ∷ old) = ap suc (filled-length n [] old)
filled-length (suc n) (x ∷ l) (o ∷ old) = ap suc (filled-length n l old)

-- a second filling hides the first
pub filled-again : (n : ℕ) (l m old : List ℕ) → filled n l (filled n m old) ≡ filled n l old
unfolding filled
filled-again zero l m old = refl
filled-again (suc n) l m [] = refl
filled-again (suc n) [] [] (o ∷ old) = rw (filled-again n [] [] old)
filled-again (suc n) [] (y ∷ m) (o ∷ old) = rw (filled-again n [] m old)
filled-again (suc n) (x ∷ l) [] (o ∷ old) = rw (filled-again n l [] old)
filled-again (suc n) (x ∷ l) (y ∷ m) (o ∷ old) = rw (filled-again n l m old)

-- an entry is stored behind l
filled_push : (n : ℕ) (l old : List ℕ) (x : ℕ) → length l < n → n ≤ length old
    → set (filled n l old) (length l) x ≡ filled n (l ++ (x ∷ [])) old
unfolding filled
filled_push zero l old x h k = absurd (not-suc-le-zero h)
filled_push (suc n) l [] x h k = absurd (not-suc-le-zero k)
filled_push (suc n) [] (o ∷ old) x h k = refl
filled_push (suc n) (y ∷ l) (o ∷ old) x h k = rw (filled_push n l old x (le_of_suc-le-suc h) (le_of_suc-le-suc k))

pub filled_pushes : (n : ℕ) (l vs old : List ℕ) → length l + length vs ≤ n → n ≤ length old
    → sets (filled n l old) (length l) vs ≡ filled n (l ++ vs) old
filled_pushes n l [] old h k = rw (append-nil l)
filled_pushes n l (v ∷ vs) old h k =
    let e : length (l ++ (v ∷ [])) ≡ suc (length l) = length-append l (v ∷ []) ∙ add-one (length l) in
    let ih = filled_pushes n (l ++ (v ∷ [])) vs old (omega arith) k in
    rw (filled_push n l old v (omega arith) k, ← e, ih, append_assoc)

pub filled_at : (n : ℕ) (l old : List ℕ) (i : ℕ) → i < n → n ≤ length old → get_or (filled n l old) i 0 ≡ get_or l i 0
unfolding filled
filled_at zero l old i h k = absurd (not-suc-le-zero h)
filled_at (suc n) l [] i h k = absurd (not-suc-le-zero k)
filled_at (suc n) [] (o ∷ old) zero h k = refl
filled_at (suc n) [] (o ∷ old) (suc i) h k = filled_at n [] old i (le_of_suc-le-suc h) (le_of_suc-le-suc k) ∙ refl
filled_at (suc n) (x ∷ l) (o ∷ old) zero h k = refl
filled_at (suc n) (x ∷ l) (o ∷ old) (suc i) h k = filled_at n l old i (le_of_suc-le-suc h) (le_of_suc-le-suc k)

-- what is filled, and what is kept behind it
filled-parts : (n : ℕ) (l old : List ℕ) → n ≤ length old → filled n l old ≡ padded n l ++ drop n old
unfolding filled padded
filled-parts zero l old h = refl
filled-parts (suc n) l [] h = absurd (not-suc-le-zero h)
filled-parts (suc n) [] (o ∷ old) h = rw (filled-parts n [] old (le_of_suc-le-suc h))
filled-parts (suc n) (x ∷ l) (o ∷ old) h = rw (filled-parts n l old (le_of_suc-le-suc h))

pub filled-take : (n : ℕ) (l old : List ℕ) → n ≤ length old → take n (filled n l old) ≡ padded n l
filled-take n l old h = rw (filled-parts n l old h) (take_at (padded n l) (drop n old) n (padded-length n l))

-- a table that is lent with exactly its size
pub filled-exact : (n : ℕ) (l old : List ℕ) → length old ≡ n → filled n l old ≡ padded n l
filled-exact n l old e =
    let k : length (filled n l old) ≤ n = omega (arith, filled-length n l old) in
    sym (take_all n (filled n l old) k) ∙ filled-take n l old (omega arith)

-- padded

pub padded-at : (n : ℕ) (l : List ℕ) (i : ℕ) → i < n → get_or (padded n l) i 0 ≡ get_or l i 0
unfolding padded
padded-at zero l i h = absurd (not-suc-le-zero h)
padded-at (suc n) [] zero h = refl
padded-at (suc n) [] (suc i) h = padded-at n [] i (le_of_suc-le-suc h)
padded-at (suc n) (x ∷ l) zero h = refl
padded-at (suc n) (x ∷ l) (suc i) h = padded-at n l i (le_of_suc-le-suc h)

-- an entry is stored behind l
pub padded_push : (n : ℕ) (l : List ℕ) (x : ℕ) → length l < n → set (padded n l) (length l) x ≡ padded n (l ++ (x ∷ []))
unfolding padded
padded_push zero l x h = absurd (not-suc-le-zero h)
padded_push (suc n) [] x h = refl
padded_push (suc n) (y ∷ l) x h = rw (padded_push n l x (le_of_suc-le-suc h))

-- only zeros
pub padded-none : (k n : ℕ) → padded (k + n) [] ≡ padded k [] ++ padded n []
unfolding padded
padded-none zero n = rw (zero-add n)
padded-none (suc k) n = rw (suc-add, padded-none k n)

pub padded-zeros : (n : ℕ) → replicate n 0 ≡ padded n []
unfolding padded
padded-zeros zero = refl
padded-zeros (suc n) = rw (padded-zeros n)

pub padded-first : (n : ℕ) → get_or (padded n []) 0 0 ≡ 0
unfolding padded
padded-first zero = refl
padded-first (suc n) = refl

padded-behind : (n : ℕ) (l m : List ℕ) → padded (length l + n) (l ++ m) ≡ l ++ padded n m
unfolding padded
padded-behind n [] m = rw (zero-add n)
padded-behind n (x ∷ l) m = rw (suc-add, padded-behind n l m)

-- only what stands behind the first k entries is padded
pub padded-append : (k n : ℕ) (l m : List ℕ) → length l ≡ k → padded (k + n) (l ++ m) ≡ l ++ padded n m
padded-append k n l m h = rw (← h) (padded-behind n l m)

pub padded-split : (n : ℕ) (l : List ℕ) → length l ≤ n → padded n l ≡ l ++ padded (n - length l) []
padded-split n l h =
    let e : length l + (n - length l) ≡ n = omega arith in
    rw (e, append-nil) at (padded-behind (n - length l) l [])

pub padded-front : (n : ℕ) (l : List ℕ) → length l ≤ n → take (length l) (padded n l) ≡ l
padded-front n l h =
    ap (take (length l)) (padded-split n l h) ∙ take_at l (padded (n - length l) []) (length l) refl

-- filling has zeros behind the list by itself
filled-zeros : (n k : ℕ) (l old : List ℕ) → filled n (l ++ padded k []) old ≡ filled n l old
unfolding filled padded
filled-zeros zero k l old = refl
filled-zeros (suc n) k l [] = refl
filled-zeros (suc n) zero [] (o ∷ old) = refl
filled-zeros (suc n) (suc k) [] (o ∷ old) = rw (filled-zeros n k [] old)
filled-zeros (suc n) k (x ∷ l) (o ∷ old) = rw (filled-zeros n k l old)

pub filled-padded : (n k : ℕ) (l m old : List ℕ) → length m ≤ k
    → filled n (l ++ padded k m) old ≡ filled n (l ++ m) old
filled-padded n k l m old h = rw (padded-split k m h, ← append_assoc) (filled-zeros n (k - length m) (l ++ m) old)
