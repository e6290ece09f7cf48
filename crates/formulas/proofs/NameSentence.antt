-- The formula that is a name: how it is spelled, and the names of a literal. Assumes nothing.
use mathlib.Core.Path.{◌≡◌, refl}
use mathlib.Core.List.{List, [], ◌∷◌}
use Prim.Native.Nat.{ℕ}
use Rattle.text.specs.Tokens.{Token}
use Rattle.text.specs.Words.{begins_with_letter}
use Rattle.formulas.specs.Sentence.{Sentence, tokens_of, is_sentence, sentence_names}

module _ (w : List ℕ) where
  pub name-tokens : tokens_of (Sentence.name w) ≡ Token.word w ∷ []
  unfolding tokens_of
  name-tokens = refl

  pub name-is-sentence : is_sentence (Sentence.name w) ≡ begins_with_letter w
  unfolding is_sentence
  name-is-sentence = refl

  pub name-names : sentence_names (Sentence.name w) ≡ w ∷ []
  unfolding sentence_names
  name-names = refl

  pub negation-names : sentence_names (Sentence.negation (Sentence.name w)) ≡ w ∷ []
  unfolding sentence_names
  negation-names = refl
