-- Tokens and lines written as text.
-- From: document 02, [8] ("One space stands between two words that no bracket parts, none elsewhere"); document 01,
-- "The file" ("Lines end in LF").
--
--   spelled ts   the text of the tokens ts
--   text_of ls   the lines ls, each of which ends in LF
use Rattle.std.specs.Prelude.{Bool, true, false, List, [], ◌∷◌, ◌++◌, ℕ}
use Rattle.text.specs.Tokens.{Token}

-- the text of the tokens ts, just behind a word where the test holds
unfoldable pub spelled_from : Bool → List Token → List ℕ
spelled_from b [] = []
spelled_from b (Token.opening ∷ ts) = 40 ∷ spelled_from false ts
spelled_from b (Token.closing ∷ ts) = 41 ∷ spelled_from false ts
spelled_from false (Token.word w ∷ ts) = w ++ spelled_from true ts
spelled_from true (Token.word w ∷ ts) = 32 ∷ (w ++ spelled_from true ts)

abbrev pub spelled : List Token → List ℕ
spelled ts = spelled_from false ts

unfoldable pub text_of : List (List ℕ) → List ℕ
text_of [] = []
text_of (l ∷ ls) = l ++ (10 ∷ text_of ls)
