-- What is claimed of tokens written as text. Proved in proofs/Theorems.antt.
-- From: document 02, [8] ("text whose reading gives the same").
use Rattle.std.specs.Prelude.{◌≡◌, List}
use Rattle.text.specs.Tokens.{Token, tokens}
use Rattle.text.specs.Words.{WordBytes}
use Rattle.text.specs.Spelled.{spelled}

-- tokens whose words are words are read back from their text
abbrev pub SpelledRead : Type 0
SpelledRead = (ts : List Token) → WordBytes ts → tokens (spelled ts) ≡ ts
