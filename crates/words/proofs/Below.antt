-- Laws of tests over the numbers below n. Assumes nothing.
use mathlib.Core.Path.{◌≡◌, refl, sym, ap, ap₂, ◌∙◌}
use mathlib.Core.Bool.{Bool, true, false, ◌&&◌, ◌||◌, and-false, and-true, or-false, false≢true}
use mathlib.Core.Logic.{⊎_elim}
use Prim.Native.Nat.{ℕ, zero, suc, ◌+◌, ◌-◌, ◌≤◌, ◌<◌}
use native.Mathlib.Nat.{not-suc-le-zero, le_of_suc-le-suc, eq-or-lt_of_le, le_antisymm}
use native.Mathlib.Numerals.{add-one}
use native.Mathlib.Omega.{arith}
use lib.Dec.{eqb}
use borrow.Author.Tests.{eq-eqb, ne_eqb}
use Rattle.words.specs.Choice.{pick}
use Rattle.words.specs.Below.{any, every, first_from}
use Rattle.words.proofs.Tests.{Gives, or_gives, or_false_l, or_false_r, and_true_l, and_true_r, eqb_comm}
use Rattle.words.proofs.Tests.{by_test}

-- ---- any
pub any_ext : (n : ℕ) (p q : ℕ → Bool) → ((i : ℕ) → i < n → p i ≡ q i) → any n p ≡ any n q
any_ext zero p q e = refl
any_ext (suc n) p q e = ap₂ ◌||◌ (any_ext n p q (λ i l. e i (omega arith))) (e n (omega arith))

pub any_gives : (n : ℕ) {p q : ℕ → Bool} → ((i : ℕ) → i < n → Gives (p i) (q i)) → Gives (any n p) (any n q)
any_gives zero h = λ e. e
any_gives (suc n) {p} {q} h =
    or_gives {a = any n p} {b = any n q} (any_gives n (λ i l. h i (omega arith))) (h n (omega arith))

pub any_false : (n : ℕ) (p : ℕ → Bool) → any n p ≡ false → (i : ℕ) → i < n → p i ≡ false
any_false zero p e i l = absurd (not-suc-le-zero l)
any_false (suc n) p e i l =
    ⊎_elim (λ (q : i ≡ n). rw q (or_false_r (any n p) (p n) e))
    (λ (q : i < n). any_false n p (or_false_l (any n p) (p n) e) i q)
    (eq-or-lt_of_le (le_of_suc-le-suc l))

-- the number that passes
pub any_found : (n : ℕ) (p : ℕ → Bool) → any n p ≡ true → (i : ℕ) × (i < n) × (p i ≡ true)
any_found zero p e = absurd (false≢true e)
any_found (suc n) p e = go (p n) refl (any_found n p)
  where
    go : (b : Bool) → p n ≡ b → (any n p ≡ true → (i : ℕ) × (i < n) × (p i ≡ true))
        → (i : ℕ) × (i < suc n) × (p i ≡ true)
    go true h f = (n, omega arith, h)
    go false h f =
        let r = f (sym (or-false (any n p)) ∙ ap (λ (b : Bool). any n p || b) (sym h) ∙ e) in
        (r.0, omega (arith, r.1), r.2)

pub all-false : (n : ℕ) (p : ℕ → Bool) → ((i : ℕ) → i < n → p i ≡ false) → any n p ≡ false
all-false zero p e = refl
all-false (suc n) p e = rw (all-false n p (λ i l. e i (omega arith))) (e n (omega arith))

-- one that passes is enough
pub any_true : (n : ℕ) (p : ℕ → Bool) (i : ℕ) → i < n → p i ≡ true → any n p ≡ true
any_true n p i l e = go (any n p) refl
  where
    go : (b : Bool) → any n p ≡ b → any n p ≡ true
    go true h = h
    go false h = absurd (false≢true (sym (any_false n p h i l) ∙ e))

-- none passes from n on
pub any_below : (n m : ℕ) (p : ℕ → Bool) → n ≤ m → ((i : ℕ) → n ≤ i → p i ≡ false) → any m p ≡ any n p
any_below n zero p l h = let e : n ≡ 0 = omega arith in rw e
any_below n (suc m) p l h =
    ⊎_elim (λ (e : n ≡ suc m). rw e)
    (λ (q : n < suc m). ap₂ ◌||◌ (any_below n m p (omega arith) h) (h m (omega arith)) ∙ or-false (any n p))
    (eq-or-lt_of_le l)

pub any-or : (n : ℕ) (p q : ℕ → Bool) → any n (λ i. p i || q i) ≡ (any n p || any n q)
any-or zero p q = refl
any-or (suc n) p q = ap (λ (b : Bool). b || (p n || q n)) (any-or n p q) ∙ swap (any n p) (any n q) (p n) (q n)
  where
    swap : (a b c d : Bool) → ((a || b) || (c || d)) ≡ ((a || c) || (b || d))
    swap true b c d = refl
    swap false true true d = refl
    swap false true false d = refl
    swap false false c d = refl

-- among the numbers below k, only i is tested
pub any_at : (k : ℕ) (p : ℕ → Bool) (i : ℕ) → i < k → any k (λ j. p j && eqb j i) ≡ p i
any_at zero p i l = absurd (not-suc-le-zero l)
any_at (suc n) p i l =
    ⊎_elim
    (λ (q : i ≡ n). rw q (at_top n))
    (λ (q : i < n).
    ap₂ ◌||◌ (any_at n p i q) (ap (λ (b : Bool). p n && b) (ne_eqb n i (omega arith)) ∙ and-false (p n))
    ∙ or-false (p i))
    (eq-or-lt_of_le (le_of_suc-le-suc l))
  where
    at_top : (m : ℕ) → (any m (λ j. p j && eqb j m) || (p m && eqb m m)) ≡ p m
    at_top m =
        ap₂ ◌||◌
        (all-false m (λ j. p j && eqb j m)
        (λ j h. ap (λ (b : Bool). p j && b) (ne_eqb j m (omega arith)) ∙ and-false (p j)))
        (ap (λ (b : Bool). p m && b) (eq-eqb m m refl) ∙ and-true (p m))

pub any-is : (k : ℕ) (p : ℕ → Bool) (i : ℕ) → i < k → any k (λ j. p j && eqb i j) ≡ p i
any-is k p i l =
    any_ext k (λ j. p j && eqb i j) (λ j. p j && eqb j i) (λ j m. ap (λ (b : Bool). p j && b) (eqb_comm i j))
    ∙ any_at k p i l

-- ---- every
pub every-at : (n : ℕ) (p : ℕ → Bool) → every n p ≡ true → (i : ℕ) → i < n → p i ≡ true
every-at zero p e i l = absurd (not-suc-le-zero l)
every-at (suc n) p e i l =
    ⊎_elim (λ (q : i ≡ n). rw q (and_true_r (every n p) (p n) e))
    (λ (q : i < n). every-at n p (and_true_l (every n p) (p n) e) i q)
    (eq-or-lt_of_le (le_of_suc-le-suc l))

pub every_true : (n : ℕ) (p : ℕ → Bool) → ((i : ℕ) → i < n → p i ≡ true) → every n p ≡ true
every_true zero p e = refl
every_true (suc n) p e = ap₂ ◌&&◌ (every_true n p (λ i l. e i (omega arith))) (e n (omega arith))

-- one number more
pub every_more : (n : ℕ) (p : ℕ → Bool) → every n p ≡ true → p n ≡ true → every (n + 1) p ≡ true
every_more n p e h = ap (λ (k : ℕ). every k p) (add-one n) ∙ ap₂ ◌&&◌ e h

-- a loop over the numbers below n ends at n
pub every-end : (n k : ℕ) (p : ℕ → Bool) → k ≤ n → n ≤ k → every k p ≡ true → true ≡ every n p
every-end n k p h l e = sym e ∙ ap (λ (j : ℕ). every j p) (le_antisymm h l)

-- one that fails is enough
pub every_false : (n : ℕ) (p : ℕ → Bool) (k : ℕ) → k < n → p k ≡ false → every n p ≡ false
every_false zero p k l e = absurd (not-suc-le-zero l)
every_false (suc n) p k l e =
    ⊎_elim
    (λ (q : k ≡ n). ap (λ (b : Bool). every n p && b) (ap p (sym q) ∙ e) ∙ and-false (every n p))
    (λ (q : k < n). ap (λ (b : Bool). b && p n) (every_false n p k q e))
    (eq-or-lt_of_le (le_of_suc-le-suc l))

-- ---- first
pub first-is : (n : ℕ) (p : ℕ → Bool) (k j : ℕ) → k ≤ j → j ≤ k + n → p j ≡ true → ((i : ℕ) → i < j → p i ≡ false)
    → first_from n p k ≡ j
first-is zero p k j h l e f = omega arith
first-is (suc n) p k j h l e f =
    ⊎_elim
    (λ (q : k ≡ j). ap (λ (b : Bool). pick b k (first_from n p (suc k))) (ap p q ∙ e) ∙ q)
    (λ (q : k < j).
    ap (λ (b : Bool). pick b k (first_from n p (suc k))) (f k q) ∙ first-is n p (suc k) j q (omega arith) e f)
    (eq-or-lt_of_le h)

pub first_ext : (n : ℕ) (p q : ℕ → Bool) (k : ℕ) → ((i : ℕ) → p i ≡ q i) → first_from n p k ≡ first_from n q k
first_ext zero p q k e = refl
first_ext (suc n) p q k e = ap₂ (λ (b : Bool) (j : ℕ). pick b k j) (e k) (first_ext n p q (suc k) e)

pub first-le : (n : ℕ) (p : ℕ → Bool) (k : ℕ) → first_from n p k ≤ k + n
first-le zero p k = omega arith
first-le (suc n) p k =
    let ih = first-le n p (suc k) in
    by_test (p k) (λ e. rw e (omega arith)) (λ e. rw e (omega arith))

-- a loop over the numbers below n has reached k: it stops there, goes on or ends
module _ (n : ℕ) (p : ℕ → Bool) (k : ℕ) where
  pub first_stops : k < n → p k ≡ true → first_from (n - k) p k ≡ k
  first_stops h e = let s : n - k ≡ suc (n - (k + 1)) = omega arith in rw s (rw e)

  pub first_more : k < n → p k ≡ false → first_from (n - k) p k ≡ first_from (n - (k + 1)) p (k + 1)
  first_more h e = let s : n - k ≡ suc (n - (k + 1)) = omega arith in rw (s, add-one) (rw e)

  pub first_ends : n ≤ k → first_from (n - k) p k ≡ k
  first_ends h = let s : n - k ≡ 0 = omega arith in rw s
