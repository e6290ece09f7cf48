-- A test over a list of minimal settings and one more, and the list of the verdicts. Assumes nothing.
use mathlib.Core.Path.{◌≡◌, refl, ap₂}
use mathlib.Core.Bool.{Bool, true, ◌&&◌, and-true, and_assoc}
use mathlib.Core.List.{List, [], ◌∷◌, ◌++◌}
use Prim.Native.Nat.{ℕ, ◌<◌}
use lib.ListN.{length, get_or}
use Rattle.words.proofs.Lists.{list_of-length, list_of-at, list_of-one}
use Rattle.logic.specs.declared.value.Value.{Value}
use Rattle.logic.specs.Value.{is_true, is_false}
use Rattle.verdict.specs.declared.verdict.Verdict.TheVariants.{Unexplained}
use Rattle.explanation.specs.Judge.{Judge}
use Rattle.verdict.specs.Walk.{passes_in_all, true_in_all, false_in_all, verdict_by, verdict_of, verdicts_of}

-- ---- a test of the value of query q
module _ (test : Value → Bool) (J : Judge) (q : ℕ) where
  pub passes_in_none : passes_in_all test J q [] ≡ true
  unfolding passes_in_all
  passes_in_none = refl

  pub passes_in_next : (s : ℕ) (l : List ℕ)
      → passes_in_all test J q (s ∷ l) ≡ (test (J.value q s) && passes_in_all test J q l)
  unfolding passes_in_all
  passes_in_next s l = refl

  pub passes_in_more : (s : ℕ) (l : List ℕ)
      → passes_in_all test J q (l ++ (s ∷ [])) ≡ (passes_in_all test J q l && test (J.value q s))
  unfolding passes_in_all
  passes_in_more s [] = and-true (test (J.value q s))
  passes_in_more s (x ∷ l) = rw (passes_in_more s l, and_assoc)

-- ---- the verdict on query q
pub verdict_is : (J : Judge) (q : ℕ) (l : List ℕ)
    → verdict_of J q l ≡ verdict_by (length l) (true_in_all J q l) (false_in_all J q l)
unfolding verdict_of
verdict_is J q l = refl

-- ---- query p of one judge and query q of another, with the same values
module _ (J K : Judge) (p q : ℕ) (e : (s : ℕ) → J.value p s ≡ K.value q s) where
  passes_alike : (test : Value → Bool) (l : List ℕ) → passes_in_all test J p l ≡ passes_in_all test K q l
  unfolding passes_in_all
  passes_alike test [] = refl
  passes_alike test (s ∷ l) = rw (e s, passes_alike test l)

  pub verdict_alike : (l : List ℕ) → verdict_of J p l ≡ verdict_of K q l
  unfolding verdict_of
  verdict_alike l = ap₂ (verdict_by (length l)) (passes_alike is_true l) (passes_alike is_false l)

-- ---- on all queries
module _ (J : Judge) (l : List ℕ) where
  pub verdicts_length : length (verdicts_of J l) ≡ J.queries
  unfolding verdicts_of
  verdicts_length = list_of-length J.queries _

  pub verdicts_at : (q : ℕ) → q < J.queries → get_or (verdicts_of J l) q Unexplained ≡ verdict_of J q l
  unfolding verdicts_of
  verdicts_at q h = list_of-at J.queries (λ q. verdict_of J q l) q Unexplained h

  pub verdicts_one : J.queries ≡ 1 → verdicts_of J l ≡ (verdict_of J 0 l ∷ [])
  unfolding verdicts_of
  verdicts_one e = rw (e, list_of-one)
