-- The words and brackets of a line.
-- From: document 01, "The file" ("A word is a longest run of letters, digits and `-`. Spaces are needed only between
-- two words and may stand anywhere outside a word").
--
--   tokens l         the words and brackets of l in order
use Rattle.std.specs.Prelude.{List, [], ◌∷◌, ◌++◌, ℕ, eqb}
use Rattle.words.specs.Choice.{pick}
use Rattle.text.specs.Bytes.{is_word_byte}

pub data Token : Type 0 where
  opening : Token
  closing : Token
  word : List ℕ → Token

-- a word that has ended, unless it is empty, in front of ts
abbrev pub ended : List ℕ → List Token → List Token
ended [] ts = ts
ended (b ∷ w) ts = Token.word (b ∷ w) ∷ ts

-- a byte that stands in no word, in front of ts
abbrev pub bracket : ℕ → List Token → List Token
bracket b ts = pick (eqb b 40) (Token.opening ∷ ts) (pick (eqb b 41) (Token.closing ∷ ts) ts)

-- the tokens of what is left, behind the part w of a word
unfoldable pub tokens_from : List ℕ → List ℕ → List Token
tokens_from w [] = ended w []
tokens_from w (b ∷ l) =
    let more = tokens_from (w ++ (b ∷ [])) l in
    let other = ended w (bracket b (tokens_from [] l)) in
    pick (is_word_byte b) more other

abbrev pub tokens : List ℕ → List Token
tokens l = tokens_from [] l
