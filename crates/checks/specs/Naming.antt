-- What a name is.
-- From: document 01, "The file" ("N is a name").
--
--   is_name w     w is a name as document 01 words it: a letter, then letters, digits or `-`, 16 bytes at most
use Rattle.std.specs.Prelude.{◌≡◌, Bool, true, ◌&&◌, List, ℕ, leb, length}
use Rattle.text.specs.Bytes.{is_word_byte, all_of}
use Rattle.text.specs.Words.{begins_with_letter}

unfoldable pub is_name : List ℕ → Bool
is_name w = begins_with_letter w && all_of is_word_byte w && leb (length w) 16

abbrev pub IsName : List ℕ → Type 0
IsName w = is_name w ≡ true
