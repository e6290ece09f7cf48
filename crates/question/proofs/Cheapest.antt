-- The cheapest of the minimal settings below n, as the walk gathers them: one setting more at a time. Assumes nothing.
use mathlib.Core.Path.{◌≡◌, refl, sym, subst, ◌∙◌}
use mathlib.Core.Bool.{Bool, true, false, true≢false}
use mathlib.Core.List.{List, [], ◌∷◌, ◌++◌, append-nil}
use mathlib.Core.Logic.{⊎_elim}
use Prim.Native.Nat.{ℕ, zero, suc, ◌≤◌, ◌<◌}
use native.Mathlib.Nat.{not-suc-le-zero, eq-or-lt_of_le, le_of_suc-le-suc}
use native.Mathlib.Omega.{arith}
use Rattle.words.proofs.Tests.{lt-or-le}
use Rattle.explanation.specs.Judge.{Judge}
use Rattle.explanation.specs.Subset.{minimal}
use Rattle.cost.specs.Cheapest.{cheapest_of, lowest_cost}
use Rattle.cost.proofs.Least.{cheapest_none, lowest_none, cheapest_one, lowest-is, cheapest_less, cheapest_kept}
use Rattle.verdict.specs.Walk.{only_if, minimals_below}
use Rattle.verdict.proofs.Counting.{minimals-none, minimals-next}
use Rattle.question.specs.Claims.{SomeMinimal, CheapestIs}

module _ (J : Judge) (f : ℕ → ℕ) (cs : List ℕ) where
  -- the cheapest of l is exact; where l is empty, there is none
  abbrev Exact : ℕ → List ℕ → Type 0
  Exact n [] = SomeMinimal J cs n → ⊥
  Exact n (s ∷ l) = CheapestIs J f cs n (cheapest_of f (s ∷ l)) (lowest_cost f (s ∷ l))

  -- t is the cheapest of a list
  exact-at : (n s : ℕ) (l : List ℕ) {t : ℕ} → cheapest_of f (s ∷ l) ≡ t → CheapestIs J f cs n t (f t) → Exact n (s ∷ l)
  exact-at n s l e c =
      let own = subst (λ (x : ℕ). CheapestIs J f cs n x (f x)) (sym e) c in
      subst (CheapestIs J f cs n (cheapest_of f (s ∷ l))) (sym (lowest-is f s l)) own

  module _ (n : ℕ) where
    -- a setting up to n is n or below it
    up_to : {P : ℕ → Type 0} → P n → ((t : ℕ) → t < n → P t) → (t : ℕ) → t < suc n → P t
    up_to {P} p g t l = ⊎_elim (λ (e : t ≡ n). subst P (sym e) p) (g t) (eq-or-lt_of_le (le_of_suc-le-suc l))

    -- n isn't minimal
    module _ (o : minimal J cs n ≡ false) where
      not-here : {A : Type 0} → minimal J cs n ≡ true → A
      not-here m = absurd (true≢false (sym m ∙ o))

      exact-other : (l : List ℕ) → Exact n l → Exact (suc n) l
      exact-other [] g = λ s. up_to {P = λ t. minimal J cs t ≡ true → ⊥} not-here (λ t l z. g (t, l, z)) s.0 s.1
          s.2
      exact-other (s ∷ l) c = record {
        below = omega (arith, c.below);
        is-minimal = c.is-minimal;
        cost-is = c.cost-is;
        least = up_to not-here c.least;
        first = up_to not-here c.first;
      }

    -- n is minimal
    module _ (m : minimal J cs n ≡ true) where
      -- it costs less than any other
      here : ((t : ℕ) → t < n → minimal J cs t ≡ true → f n < f t) → CheapestIs J f cs (suc n) n (f n)
      here g = record {
        below = omega arith;
        is-minimal = m;
        cost-is = refl;
        least = up_to (λ z. omega arith) (λ t q z. omega (arith, g t q z));
        first = up_to (λ z e. omega arith) (λ t q z e. absurd (omega (arith, g t q z)));
      }

      -- s costs no more
      before : (s k : ℕ) → CheapestIs J f cs n s k → f s ≤ f n → CheapestIs J f cs (suc n) s (f s)
      before s k c h = record {
        below = omega (arith, c.below);
        is-minimal = c.is-minimal;
        cost-is = refl;
        least = up_to (λ z. h) c.least;
        first = up_to (λ z e. omega (arith, c.below)) c.first;
      }

      exact-minimal : (l : List ℕ) → Exact n l → Exact (suc n) (l ++ (n ∷ []))
      exact-minimal [] g = exact-at (suc n) n [] (cheapest_one f n) (here (λ t q z. absurd (g (t, q, z))))
      exact-minimal (s ∷ l) c =
          ⊎_elim
          (λ (h : f n < f (cheapest_of f (s ∷ l))).
          exact-at (suc n) s (l ++ (n ∷ [])) (cheapest_less f s l n h)
          (here (λ t q z. omega (arith, c.least t q z))))
          (λ (h : f (cheapest_of f (s ∷ l)) ≤ f n).
          exact-at (suc n) s (l ++ (n ∷ [])) (cheapest_kept f s l n h) (before _ _ c h))
          (lt-or-le (f n) (f (cheapest_of f (s ∷ l))))

    exact-more : (l : List ℕ) (t : Bool) → minimal J cs n ≡ t → Exact n l → Exact (suc n) (l ++ only_if t n)
    exact-more l true e g = exact-minimal e l g
    exact-more l false e g = rw append-nil (exact-other e l g)

  minimals-exact : (n : ℕ) → Exact n (minimals_below J cs n)
  minimals-exact zero = subst (Exact 0) (sym (minimals-none J cs)) (λ m. not-suc-le-zero m.1)
  minimals-exact (suc n) =
      subst (Exact (suc n)) (sym (minimals-next J cs n))
      (exact-more n (minimals_below J cs n) (minimal J cs n) refl (minimals-exact n))

  -- ---- where some setting is minimal, and where none is
  exact-some : (n : ℕ) (l : List ℕ) → Exact n l → SomeMinimal J cs n
      → CheapestIs J f cs n (cheapest_of f l) (lowest_cost f l)
  exact-some n [] g m = absurd (g m)
  exact-some n (s ∷ l) c m = c

  exact_none : (n : ℕ) (l : List ℕ) → Exact n l → (SomeMinimal J cs n → ⊥)
      → (cheapest_of f l ≡ 0) × (lowest_cost f l ≡ 0)
  exact_none n [] g z = (cheapest_none f, lowest_none f)
  exact_none n (s ∷ l) c z = absurd (z (cheapest_of f (s ∷ l), c.below, c.is-minimal))

  pub cheapest_some : (n : ℕ) → SomeMinimal J cs n
      → CheapestIs J f cs n (cheapest_of f (minimals_below J cs n)) (lowest_cost f (minimals_below J cs n))
  cheapest_some n = exact-some n (minimals_below J cs n) (minimals-exact n)

  pub cheapest_zero : (n : ℕ) → (SomeMinimal J cs n → ⊥)
      → (cheapest_of f (minimals_below J cs n) ≡ 0) × (lowest_cost f (minimals_below J cs n) ≡ 0)
  cheapest_zero n = exact_none n (minimals_below J cs n) (minimals-exact n)
