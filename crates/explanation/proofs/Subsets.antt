-- Laws of subsets of a setting: they are ordered, a proper one is a smaller number, and what some proper one that
-- passes a test says. The choice counts are any list; a number below their product tells that each is positive.
-- Assumes nothing.
use mathlib.Core.Path.{◌≡◌, refl, ap, ap₂, ◌∙◌}
use mathlib.Core.Bool.{Bool, true, false, not, ◌&&◌, ◌||◌, or-true}
use mathlib.Core.List.{List, [], ◌∷◌}
use mathlib.Core.Logic.{◌⊎◌, inl, inr, ⊎_elim}
use Prim.Native.Nat.{ℕ, zero, suc, ◌*◌, ◌/◌, ◌%◌, ◌≤◌, ◌<◌}
use native.Mathlib.Nat.{div-add-mod, div-lt_iff_lt-mul, le_trans, mul_comm, mul-le-mul_left}
use native.Mathlib.Omega.{arith}
use lib.Dec.{eqb}
use lib.ListN.{length}
use lib.Pow.{pow_pos}
use borrow.Author.Tests.{eqb-true, eqb-false, eq-eqb, ne_eqb, not-true}
use Rattle.words.proofs.Tests.{and_true_l, and_true_r}
use Rattle.words.proofs.Below.{any_found, any_true}
use Rattle.program.specs.Setting.{choices_for, product}
use Rattle.program.proofs.Settings.{choices_many}
use Rattle.explanation.specs.Subset.{subset_of, proper_of, some_proper}

-- ---- choice counts
pub choices_positive : (tw : ℕ) (l : List ℕ) → 0 < product (choices_for tw l)
choices_positive tw l = le_trans (pow_pos (length l)) (choices_many tw l)

pub factor_positive : (c n : ℕ) → 0 < c * n → 0 < c
factor_positive zero n h = absurd (omega arith)
factor_positive (suc c) n h = omega arith

pub rest_below : (c s n : ℕ) → s < c * n → s / c < n
rest_below c s n h = (div-lt_iff_lt-mul (factor_positive c n (omega arith))).1 (rw mul_comm at h)

-- ---- digits
-- the digit d is 0 or e
abbrev pub digit_within : ℕ → ℕ → Bool
digit_within d e = eqb d 0 || eqb d e

pub digit_refl : (d : ℕ) → digit_within d d ≡ true
digit_refl d = ap (λ (t : Bool). eqb d 0 || t) (eq-eqb d d refl) ∙ or-true (eqb d 0)

-- a digit is dropped, or kept where it isn't 0
pub digit_cases : (d e : ℕ) → digit_within d e ≡ true → (d ≡ 0) ⊎ ((d ≡ e) × (e ≡ 0 → ⊥))
digit_cases d e h = go (eqb d 0) refl h
  where
    go : (t : Bool) → eqb d 0 ≡ t → (t || eqb d e) ≡ true → (d ≡ 0) ⊎ ((d ≡ e) × (e ≡ 0 → ⊥))
    go true k q = inl (eqb-true d 0 k)
    go false k q = inr (eqb-true d e q, λ z. eqb-false d 0 k (eqb-true d e q ∙ z))

digit-le : (d e : ℕ) → digit_within d e ≡ true → d ≤ e
digit-le d e h = ⊎_elim (λ (z : d ≡ 0). omega arith) (λ z. omega arith) (digit_cases d e h)

digit_trans : (d e f : ℕ) → digit_within d e ≡ true → digit_within e f ≡ true → digit_within d f ≡ true
digit_trans d e f h k =
    ⊎_elim
    (λ (z : d ≡ 0). ap (λ (t : Bool). t || eqb d f) (eq-eqb d 0 z))
    (λ z. ap (λ (x : ℕ). digit_within x f) z.0 ∙ k)
    (digit_cases d e h)

-- ---- subsets
pub subset-digit : (c : ℕ) (cs : List ℕ) (t s : ℕ) → subset_of (c ∷ cs) t s ≡ true → digit_within (t % c) (s % c) ≡ true
unfolding subset_of
subset-digit c cs t s h = and_true_l (digit_within (t % c) (s % c)) (subset_of cs (t / c) (s / c)) h

pub subset-rest : (c : ℕ) (cs : List ℕ) (t s : ℕ) → subset_of (c ∷ cs) t s ≡ true → subset_of cs (t / c) (s / c) ≡ true
unfolding subset_of
subset-rest c cs t s h = and_true_r (digit_within (t % c) (s % c)) (subset_of cs (t / c) (s / c)) h

pub subset_refl : (cs : List ℕ) (s : ℕ) → subset_of cs s s ≡ true
unfolding subset_of
subset_refl [] s = refl
subset_refl (c ∷ cs) s = ap₂ ◌&&◌ (digit_refl (s % c)) (subset_refl cs (s / c))

pub subset_trans : (cs : List ℕ) (r s t : ℕ) → subset_of cs r s ≡ true → subset_of cs s t ≡ true
    → subset_of cs r t ≡ true
unfolding subset_of
subset_trans [] r s t h k = refl
subset_trans (c ∷ cs) r s t h k =
    ap₂ ◌&&◌
    (digit_trans (r % c) (s % c) (t % c) (subset-digit c cs r s h) (subset-digit c cs s t k))
    (subset_trans cs (r / c) (s / c) (t / c) (subset-rest c cs r s h) (subset-rest c cs s t k))

pub subset-le : (cs : List ℕ) (t s : ℕ) → subset_of cs t s ≡ true → t < product cs → s < product cs → t ≤ s
unfolding product
subset-le [] t s h l m = omega arith
subset-le (c ∷ cs) t s h l m =
    let d = digit-le (t % c) (s % c) (subset-digit c cs t s h) in
    let q = subset-le cs (t / c) (s / c) (subset-rest c cs t s h)
    (rest_below c t (product cs) l) (rest_below c s (product cs) m) in
    omega (arith, mul-le-mul_left c q, div-add-mod t c, div-add-mod s c)

-- ---- proper subsets
module _ (cs : List ℕ) (t s : ℕ) where
  pub proper_subset : proper_of cs t s ≡ true → subset_of cs t s ≡ true
  unfolding proper_of
  proper_subset h = and_true_l (subset_of cs t s) (not (eqb t s)) h

  pub proper_lt : proper_of cs t s ≡ true → t < product cs → s < product cs → t < s
  unfolding proper_of
  proper_lt h l m =
      let ne = eqb-false t s (not-true (eqb t s) (and_true_r (subset_of cs t s) (not (eqb t s)) h)) in
      omega (arith, subset-le cs t s (proper_subset h) l m)

  pub subset_proper : subset_of cs t s ≡ true → t < s → proper_of cs t s ≡ true
  unfolding proper_of
  subset_proper h l = ap₂ ◌&&◌ h (ap not (ne_eqb t s (omega arith)))

-- ---- some proper subset that passes a test
pub some_proper-at : (p : ℕ → Bool) (cs : List ℕ) (t s : ℕ) → t < product cs → proper_of cs t s ≡ true → p t ≡ true
    → some_proper p cs s ≡ true
unfolding some_proper
some_proper-at p cs t s l h e = any_true (product cs) (λ u. proper_of cs u s && p u) t l (ap₂ ◌&&◌ h e)

-- the proper subset that passes
pub some_proper-found : (p : ℕ → Bool) (cs : List ℕ) (s : ℕ) → some_proper p cs s ≡ true
    → (t : ℕ) × (t < product cs) × (proper_of cs t s ≡ true) × (p t ≡ true)
unfolding some_proper
some_proper-found p cs s e =
    let r = any_found (product cs) (λ t. proper_of cs t s && p t) e in (
      r.0,
      r.1,
      and_true_l (proper_of cs r.0 s) (p r.0) r.2,
      and_true_r (proper_of cs r.0 s) (p r.0) r.2,
    )
