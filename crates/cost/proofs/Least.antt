-- Laws of the cheapest setting: of a list and one setting more, and of a list and settings behind one that costs
-- nothing. Assumes nothing.
use mathlib.Core.Path.{◌≡◌, refl, sym, ap, ◌∙◌}
use mathlib.Core.Bool.{Bool, true, false, true≢false, false≢true}
use mathlib.Core.List.{List, [], ◌∷◌, ◌++◌}
use Rattle.std.specs.Prelude.{Option, None, Some}
use Prim.Native.Nat.{ℕ, ◌≤◌, ◌<◌}
use native.Mathlib.Omega.{arith}
use lib.Dec.{ltb}
use borrow.Author.Tests.{lt-ltb, le-ltb}
use Rattle.words.specs.Choice.{pick}
use Rattle.cost.specs.declared.cheapest.Cheapest.{Cheapest}
use Rattle.cost.specs.Cheapest.{cheaper, cheapest_of, lowest_cost, Chosen}

-- whether there is a cheapest, and which it is, otherwise another
abbrev some : Option Cheapest → Bool
some None = false
some (Some k) = true

abbrev or : Cheapest → Option Cheapest → Cheapest
or d None = d
or d (Some k) = k

module _ (f : ℕ → ℕ) where
  -- ---- the first of least cost
  cheaper-append : (s : ℕ) (l m : List ℕ) → cheaper f s (l ++ m) ≡ cheaper f (cheaper f s l) m
  unfolding cheaper
  cheaper-append s [] m = refl
  cheaper-append s (t ∷ l) m = cheaper-append (pick (ltb (f t) (f s)) t s) l m

  cheaper-more : (s : ℕ) (l : List ℕ) (t : ℕ)
      → cheaper f s (l ++ (t ∷ [])) ≡ pick (ltb (f t) (f (cheaper f s l))) t (cheaper f s l)
  unfolding cheaper
  cheaper-more s l t = cheaper-append s l (t ∷ [])

  cheaper-free : (s : ℕ) (l : List ℕ) → f s ≡ 0 → cheaper f s l ≡ s
  unfolding cheaper
  cheaper-free s [] e = refl
  cheaper-free s (t ∷ l) e =
      ap (λ (b : Bool). cheaper f (pick b t s) l) (le-ltb (f t) (f s) (omega arith)) ∙ cheaper-free s l e

  -- ---- the cheapest of a list
  pub cheapest_none : cheapest_of f [] ≡ 0
  unfolding cheapest_of
  cheapest_none = refl

  pub lowest_none : lowest_cost f [] ≡ 0
  unfolding lowest_cost
  lowest_none = refl

  pub cheapest_one : (t : ℕ) → cheapest_of f (t ∷ []) ≡ t
  unfolding cheapest_of cheaper
  cheapest_one t = refl

  pub lowest-is : (s : ℕ) (l : List ℕ) → lowest_cost f (s ∷ l) ≡ f (cheapest_of f (s ∷ l))
  unfolding lowest_cost
  lowest-is s l = refl

  -- ---- one setting more
  module _ (s : ℕ) (l : List ℕ) (t : ℕ) where
    pub cheapest_less : f t < f (cheapest_of f (s ∷ l)) → cheapest_of f ((s ∷ l) ++ (t ∷ [])) ≡ t
    unfolding cheapest_of
    cheapest_less h =
        cheaper-more s l t ∙ ap (λ (b : Bool). pick b t (cheaper f s l)) (lt-ltb (f t) (f (cheaper f s l)) h)

    pub cheapest_kept : f (cheapest_of f (s ∷ l)) ≤ f t
        → cheapest_of f ((s ∷ l) ++ (t ∷ [])) ≡ cheapest_of f (s ∷ l)
    unfolding cheapest_of
    cheapest_kept h =
        cheaper-more s l t ∙ ap (λ (b : Bool). pick b t (cheaper f s l)) (le-ltb (f t) (f (cheaper f s l)) h)

  -- settings more, where the cheapest costs nothing
  cheapest_free : (s : ℕ) (l m : List ℕ) → f (cheapest_of f (s ∷ l)) ≡ 0
      → cheapest_of f ((s ∷ l) ++ m) ≡ cheapest_of f (s ∷ l)
  unfolding cheapest_of
  cheapest_free s l m e = cheaper-append s l m ∙ cheaper-free (cheaper f s l) m e

  -- ---- what is chosen
  pub chosen_none : Chosen f [] None
  chosen_none = refl

  -- what is chosen of a list with a setting
  module _ (s : ℕ) (l : List ℕ) {k : Cheapest} where
    pub chosen-some : k.cost ≡ lowest_cost f (s ∷ l) → k.setting ≡ cheapest_of f (s ∷ l) → Chosen f (s ∷ l) (Some k)
    chosen-some p q i = Some (record { cost = p i; setting = q i })

    module _ (c : Chosen f (s ∷ l) (Some k)) where
      pub cost-is : k.cost ≡ lowest_cost f (s ∷ l)
      cost-is = ap (λ (o : Option Cheapest). (or k o).cost) c

      pub setting-is : k.setting ≡ cheapest_of f (s ∷ l)
      setting-is = ap (λ (o : Option Cheapest). (or k o).setting) c

  -- settings more, and the cheapest stays
  chosen-same : (s : ℕ) (l m : List ℕ) {k : Cheapest} → Chosen f (s ∷ l) (Some k)
      → cheapest_of f ((s ∷ l) ++ m) ≡ cheapest_of f (s ∷ l) → Chosen f ((s ∷ l) ++ m) (Some k)
  chosen-same s l m c q =
      chosen-some s (l ++ m)
      (cost-is s l c ∙ lowest-is s l ∙ ap f (sym q) ∙ sym (lowest-is s (l ++ m)))
      (setting-is s l c ∙ sym q)

  module _ {k : Cheapest} where
    pub chosen-first : (l : List ℕ) → Chosen f l None → k.cost ≡ f k.setting
        → Chosen f (l ++ (k.setting ∷ [])) (Some k)
    chosen-first [] c e =
        chosen-some k.setting []
        (e ∙ ap f (sym (cheapest_one k.setting)) ∙ sym (lowest-is k.setting []))
        (sym (cheapest_one k.setting))
    chosen-first (s ∷ l) c e = absurd (false≢true (ap some c))

    module _ {best : Cheapest} where
      pub chosen_less : (l : List ℕ) → Chosen f l (Some best) → k.cost < best.cost → k.cost ≡ f k.setting
          → Chosen f (l ++ (k.setting ∷ [])) (Some k)
      chosen_less [] c m e = absurd (true≢false (ap some c))
      chosen_less (s ∷ l) c m e =
          let q = cheapest_less s l k.setting (omega (arith, cost-is s l c, lowest-is s l)) in
          chosen-some s (l ++ (k.setting ∷ []))
          (e ∙ ap f (sym q) ∙ sym (lowest-is s (l ++ (k.setting ∷ []))))
          (sym q)

      pub chosen-kept : (l : List ℕ) → Chosen f l (Some best) → best.cost ≤ k.cost → k.cost ≡ f k.setting
          → Chosen f (l ++ (k.setting ∷ [])) (Some best)
      chosen-kept [] c m e = absurd (true≢false (ap some c))
      chosen-kept (s ∷ l) c m e =
          let q = cheapest_kept s l k.setting (omega (arith, cost-is s l c, lowest-is s l)) in
          chosen-same s l (k.setting ∷ []) c q

  pub chosen-free : (l m : List ℕ) {k : Cheapest} → Chosen f l (Some k) → k.cost ≡ 0 → Chosen f (l ++ m) (Some k)
  chosen-free [] m c z = absurd (true≢false (ap some c))
  chosen-free (s ∷ l) m c z =
      chosen-same s l m c (cheapest_free s l m (sym (lowest-is s l) ∙ sym (cost-is s l c) ∙ z))
