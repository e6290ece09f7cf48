-- Tokens written with a pen: a place of the output, and whether a word stands just before it.
-- From: document 02, [8] ("One space stands between two words that no bracket parts, none elsewhere").
--
--   gap_of b         what stands before a word, just behind another where the test b holds
--   behind_of b ts   a word stands just before, behind the tokens ts; without any where the test b holds
--   inked p ts       the text of the tokens ts from the pen p on
--   Spells ts ..     the tokens ts were written with the pen p; the answer is the pen behind them
use Rattle.std.specs.Prelude.{◌≡◌, Bool, true, false, List, [], ◌∷◌, ℕ, ◌+◌, length}
use Rattle.text.specs.Tokens.{Token}
use Rattle.text.specs.Spelled.{spelled_from}
use Rattle.output.specs.Writing.{laid}
use Rattle.spelling.specs.declared.Pen.{Pen}

unfoldable pub gap_of : Bool → List ℕ
gap_of true = 32 ∷ []
gap_of false = []

unfoldable pub behind_of : Bool → List Token → Bool
behind_of b [] = b
behind_of b (Token.opening ∷ ts) = behind_of false ts
behind_of b (Token.closing ∷ ts) = behind_of false ts
behind_of b (Token.word w ∷ ts) = behind_of true ts

abbrev pub inked : Pen → List Token → List ℕ
inked p ts = spelled_from p.behind ts

pub record Spells (ts : List Token) (out : List ℕ) (p r : Pen) (outAfter : List ℕ) : Type 0 where
  pub place_is : r.at ≡ p.at + length (inked p ts)
  pub behind-is : r.behind ≡ behind_of p.behind ts
  pub out_is : outAfter ≡ laid out p.at (inked p ts)
