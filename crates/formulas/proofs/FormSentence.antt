-- The formulas that are forms: how they are spelled, that they are formulas, and their names. Assumes nothing.
use mathlib.Core.Path.{◌≡◌, refl}
use mathlib.Core.Bool.{true}
use mathlib.Core.List.{[], ◌++◌}
use Prim.Native.Nat.{ℕ, ◌+◌, ◌-◌, ◌<◌}
use native.Mathlib.Omega.{arith}
use lib.ListN.{get_or}
use borrow.Author.Tests.{le-leb}
use Rattle.formulas.specs.Sentence.{Sentence, form_words, form_tokens, tokens_of, is_sentence, sentence_names}

module _ (f : Sentence) where
  pub negation-tokens : tokens_of (Sentence.negation f) ≡ form_tokens (get_or form_words 0 []) (tokens_of f)
  unfolding tokens_of
  negation-tokens = refl

  pub negation-is-sentence : is_sentence (Sentence.negation f) ≡ is_sentence f
  unfolding is_sentence
  negation-is-sentence = refl

  pub negation_of_names : sentence_names (Sentence.negation f) ≡ sentence_names f
  unfolding sentence_names
  negation_of_names = refl

  module _ (g : Sentence) (k : ℕ) where
    pub joined-tokens : tokens_of (Sentence.joined k f g)
        ≡ form_tokens (get_or form_words (k - 64) []) (tokens_of f ++ tokens_of g)
    unfolding tokens_of
    joined-tokens = refl

    pub joined-names : sentence_names (Sentence.joined k f g) ≡ sentence_names f ++ sentence_names g
    unfolding sentence_names
    joined-names = refl

    pub joined-is-sentence : k < 4 → is_sentence f ≡ true → is_sentence g ≡ true
        → is_sentence (Sentence.joined (65 + k) f g) ≡ true
    unfolding is_sentence
    joined-is-sentence h d e =
        rw (le-leb 65 (65 + k) (omega arith), le-leb (65 + k) 68 (omega arith), d, e)
