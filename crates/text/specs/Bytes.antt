-- The bytes of a case file.
-- From: document 01, "The file" and refusal 4.
--
--   is_letter, is_digit   a to z, 0 to 9
--   is_word_byte b        b stands in words: a letter, a digit or `-`
--   is_allowed b          b may stand in a line that is no comment: a word's byte, a space or a bracket
--   all_of p l            every byte of l passes p
--   same_bytes l m        l and m are the same bytes
--   bytes t               the bytes of a quoted text, which is ASCII
use Rattle.std.specs.Prelude.{Bool, true, false, ◌&&◌, ◌||◌, List, [], ◌∷◌, ℕ, eqb, leb}
use Prim.Native.Char.{code}
use Prim.Native.String.{String}

abbrev pub is_letter : ℕ → Bool
is_letter b = leb 97 b && leb b 122

abbrev pub is_digit : ℕ → Bool
is_digit b = leb 48 b && leb b 57

unfoldable pub is_word_byte : ℕ → Bool
is_word_byte b = is_letter b || is_digit b || eqb b 45

unfoldable pub is_allowed : ℕ → Bool
is_allowed b = is_word_byte b || eqb b 32 || eqb b 40 || eqb b 41

unfoldable pub all_of : (ℕ → Bool) → List ℕ → Bool
all_of p [] = true
all_of p (b ∷ l) = p b && all_of p l

unfoldable pub same_bytes : List ℕ → List ℕ → Bool
same_bytes [] [] = true
same_bytes [] (c ∷ m) = false
same_bytes (b ∷ l) [] = false
same_bytes (b ∷ l) (c ∷ m) = eqb b c && same_bytes l m

abbrev pub bytes : String → List ℕ
bytes String.[] = []
bytes (String.◌∷◌ c t) = code c ∷ bytes t
