-- Formulas over names, and how a line spells them.
-- From: document 01, "The file" ("F is N, `(not F)`, or `(and F F)`, likewise or, then, same").
--
--   Sentence           a formula over names: F
--   form_tokens w ts   the tokens of the form with the word w and with the tokens ts behind it
--   tokens_of f        the tokens of the formula f
--   sentence_names f   the names of the formula f in order
--   depth_of f         a name has depth 1, a form one more than its deepest operand
--   is_sentence f      the names of f are names, and its nodes are those of the words
use Rattle.std.specs.Prelude.{Bool, ◌&&◌, List, [], ◌∷◌, ◌++◌, ℕ, ◌+◌, ◌-◌, max, leb, get_or}
use Rattle.text.specs.Bytes.{bytes}
use Rattle.text.specs.Tokens.{Token}
use Rattle.text.specs.Words.{begins_with_letter}

-- joined k f g is the form with the node k: 65 and, 66 or, 67 then, 68 same
pub data Sentence : Type 0 where
  name : List ℕ → Sentence
  negation : Sentence → Sentence
  joined : ℕ → Sentence → Sentence → Sentence

-- the words of the nodes 64 to 68
abbrev pub form_words : List (List ℕ)
form_words =
    bytes "not" ∷ bytes "and" ∷ bytes "or" ∷ bytes "then" ∷ bytes "same" ∷ []

abbrev pub form_tokens : List ℕ → List Token → List Token
form_tokens w ts = Token.opening ∷ (Token.word w ∷ (ts ++ (Token.closing ∷ [])))

unfoldable pub tokens_of : Sentence → List Token
tokens_of (Sentence.name w) = Token.word w ∷ []
tokens_of (Sentence.negation f) = form_tokens (get_or form_words 0 []) (tokens_of f)
tokens_of (Sentence.joined k f g) = form_tokens (get_or form_words (k - 64) []) (tokens_of f ++ tokens_of g)

unfoldable pub sentence_names : Sentence → List (List ℕ)
sentence_names (Sentence.name w) = w ∷ []
sentence_names (Sentence.negation f) = sentence_names f
sentence_names (Sentence.joined k f g) = sentence_names f ++ sentence_names g

unfoldable pub depth_of : Sentence → ℕ
depth_of (Sentence.name w) = 1
depth_of (Sentence.negation f) = 1 + depth_of f
depth_of (Sentence.joined k f g) = 1 + max (depth_of f) (depth_of g)

unfoldable pub is_sentence : Sentence → Bool
is_sentence (Sentence.name w) = begins_with_letter w
is_sentence (Sentence.negation f) = is_sentence f
is_sentence (Sentence.joined k f g) = leb 65 k && leb k 68 && is_sentence f && is_sentence g
