-- What is counted setting by setting: before the first, past one that isn't minimal, and past one that is; and the
-- verdicts by the counts. Assumes nothing.
use mathlib.Core.Path.{◌≡◌, refl, sym, ap, ◌∙◌}
use mathlib.Core.Bool.{Bool, true, false, ◌&&◌}
use mathlib.Core.List.{List, [], ◌∷◌, ◌++◌, append-nil}
use Prim.Native.Nat.{ℕ, zero, suc, ◌+◌, ◌≤◌, ◌<◌}
use native.Mathlib.Numerals.{add-one}
use native.Mathlib.Omega.{arith}
use lib.ListN.{length, length-append}
use Rattle.words.specs.Bits.{has, word}
use Rattle.words.proofs.Words.{has_word, word_ext, word_kept}
use Rattle.words.proofs.Lists.{list_of_ext}
use Rattle.logic.specs.declared.value.Value.{Value}
use Rattle.logic.specs.Value.{is_true, is_false}
use Rattle.explanation.specs.Judge.{Judge}
use Rattle.explanation.specs.Subset.{minimal}
use Rattle.explanation.proofs.Minimal.{minimal_alike}
use Rattle.verdict.specs.declared.counts.Counts.{Counts}
use Rattle.verdict.specs.Walk.{only_if, minimals_below, passes_in_all, true_in_all, false_in_all}
use Rattle.verdict.specs.Walk.{verdict_by, verdict_of, verdicts_of}
use Rattle.verdict.specs.Counting.{no_counts, counts_with, verdicts_by, Counted}
use Rattle.verdict.proofs.Verdicts.{passes_in_none, passes_in_more, verdict_is}

module _ (J : Judge) (cs : List ℕ) where
  -- ---- the minimal settings with one setting more
  pub minimals-more : (s : ℕ) → minimal J cs s ≡ true → minimals_below J cs (s + 1) ≡ minimals_below J cs s ++ (s ∷ [])
  unfolding minimals_below
  minimals-more s e = rw (add-one, e)

  pub minimals-same : (s : ℕ) → minimal J cs s ≡ false → minimals_below J cs (s + 1) ≡ minimals_below J cs s
  unfolding minimals_below
  minimals-same s e = rw (add-one, e, append-nil)

  -- ---- the list of the minimal settings
  pub minimals-none : minimals_below J cs 0 ≡ []
  unfolding minimals_below
  minimals-none = refl

  pub minimals-next : (n : ℕ) → minimals_below J cs (suc n) ≡ minimals_below J cs n ++ only_if (minimal J cs n) n
  unfolding minimals_below
  minimals-next n = refl

  -- one setting more is one entry more at most
  only-le : (t : Bool) (n : ℕ) (l : List ℕ) → length l ≤ n → length (l ++ only_if t n) ≤ suc n
  only-le true n l h = omega (arith, length-append l (n ∷ []))
  only-le false n l h = rw append-nil (omega arith)

  pub minimals-le : (n : ℕ) → length (minimals_below J cs n) ≤ n
  unfolding minimals_below
  minimals-le zero = omega arith
  minimals-le (suc n) = only-le (minimal J cs n) n (minimals_below J cs n) (minimals-le n)

  -- ---- the counts
  pub counted_none : Counted J cs 0 (no_counts J.queries)
  unfolding minimals_below
  counted_none = record {
    minimal-is = refl;
    follows_are = word_ext J.queries _ _ (λ q l. sym (passes_in_none is_true J q));
    denied_are = word_ext J.queries _ _ (λ q l. sym (passes_in_none is_false J q));
  }

-- ---- judges that say of the same settings that they explain
pub minimals_alike : (J K : Judge) → ((s : ℕ) → J.explains s ≡ K.explains s) → (cs : List ℕ) (n : ℕ)
    → minimals_below J cs n ≡ minimals_below K cs n
unfolding minimals_below
minimals_alike J K e cs zero = refl
minimals_alike J K e cs (suc n) = rw (minimals_alike J K e cs n, minimal_alike J K e cs n)

module _ {J : Judge} {cs : List ℕ} {s : ℕ} {k : Counts} (h : Counted J cs s k) where
  pub counted-few : k.minimal ≤ s
  counted-few = omega (arith, h.minimal-is, minimals-le J cs s)

  pub counted-passed : minimal J cs s ≡ false → Counted J cs (s + 1) k
  counted-passed e =
      let same = minimals-same J cs s e in
      record {
        minimal-is = rw same h.minimal-is;
        follows_are = rw same h.follows_are;
        denied_are = rw same h.denied_are;
      }

  -- a minimal setting more, under which query q has the value v q
  module _ (v : ℕ → Value) (e : minimal J cs s ≡ true) (l : J.queries ≤ 64) (f : (q : ℕ) → v q ≡ J.value q s) where
    -- a word w of the queries whose values pass the test, with those of the setting more
    kept_more : (test : Value → Bool) {w : ℕ}
        → w ≡ word J.queries (λ q. passes_in_all test J q (minimals_below J cs s))
        → word 64 (λ q. has w q && test (v q))
        ≡ word J.queries (λ q. passes_in_all test J q (minimals_below J cs (s + 1)))
    kept_more test {w} g =
        let ms = minimals_below J cs s in
        ap (λ (x : ℕ). word 64 (λ q. has x q && test (v q))) g
        ∙ word_kept J.queries 64 (λ q. passes_in_all test J q ms) (λ q. test (v q)) l
        ∙ word_ext J.queries _ _ (λ q b.
        ap (λ (x : Value). passes_in_all test J q ms && test x) (f q) ∙ sym (passes_in_more test J q s ms))
        ∙ rw (minimals-more J cs s e)

    pub counted-taken : Counted J cs (s + 1) (counts_with k v)
    counted-taken = record {
      minimal-is = rw (minimals-more J cs s e, length-append) (omega (arith, h.minimal-is));
      follows_are = kept_more is_true h.follows_are;
      denied_are = kept_more is_false h.denied_are;
    }

  -- ---- the verdicts
  counted_verdict : (q : ℕ) → q < J.queries
      → verdict_by k.minimal (has k.follows q) (has k.denied q) ≡ verdict_of J q (minimals_below J cs s)
  counted_verdict q l =
      let ms = minimals_below J cs s in
      let t = ap (λ (w : ℕ). has w q) h.follows_are ∙ has_word J.queries (λ p. true_in_all J p ms) q l in
      let f = ap (λ (w : ℕ). has w q) h.denied_are ∙ has_word J.queries (λ p. false_in_all J p ms) q l in
      rw (h.minimal-is, t, f) (sym (verdict_is J q ms))

  pub counted_verdicts : verdicts_by k J.queries ≡ verdicts_of J (minimals_below J cs s)
  unfolding verdicts_of
  counted_verdicts = list_of_ext J.queries _ _ counted_verdict
