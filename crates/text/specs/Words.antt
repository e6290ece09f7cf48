-- The words of a line: which of them are names, and the place of a word among others.
-- From: document 01, "The file" ("A word after `(` is a form's word; elsewhere a name, even if spelled alike");
-- document 02, [7] (numbers stand where words do, and are no names).
--
--   begins_with_letter w   w begins with a letter; the rest of a word is letters, digits and `-` anyway
--   names_in ts            the names of a line's tokens in order: the words that begin with a letter and do not follow
--                          an opening bracket
--   place_of ws w          the place of the first of the words ws that is w, or how many there are
--   IsWord w               w has a byte, and only bytes that stand in words
--   EachWord P ts          each word of the tokens ts passes P
--   WordBytes ts           the words of the tokens ts are words
use Rattle.std.specs.Prelude.{◌≡◌, Bool, true, false, not, ◌&&◌, List, [], ◌∷◌, ℕ, suc, ◌<◌, length}
use Rattle.words.specs.Choice.{pick, cons_if}
use Rattle.text.specs.Bytes.{is_letter, is_word_byte, all_of, same_bytes}
use Rattle.text.specs.Tokens.{Token}

unfoldable pub begins_with_letter : List ℕ → Bool
begins_with_letter [] = false
begins_with_letter (b ∷ w) = is_letter b

-- the word w, behind an opening bracket where b holds, is a name
abbrev pub is_name_behind : Bool → List ℕ → Bool
is_name_behind b w = not b && begins_with_letter w

-- the names of what is left, behind an opening bracket where b holds
unfoldable pub names_from : Bool → List Token → List (List ℕ)
names_from b [] = []
names_from b (Token.opening ∷ ts) = names_from true ts
names_from b (Token.closing ∷ ts) = names_from false ts
names_from b (Token.word w ∷ ts) = cons_if (is_name_behind b w) w (names_from false ts)

abbrev pub names_in : List Token → List (List ℕ)
names_in ts = names_from false ts

unfoldable pub place_of : List (List ℕ) → List ℕ → ℕ
place_of [] w = 0
place_of (v ∷ ws) w = let r = suc (place_of ws w) in pick (same_bytes v w) 0 r

abbrev pub IsWord : List ℕ → Type 0
IsWord w = (0 < length w) × (all_of is_word_byte w ≡ true)

abbrev pub EachWord : (List ℕ → Type 0) → List Token → Type 0
EachWord P [] = Unit {0}
EachWord P (Token.opening ∷ ts) = EachWord P ts
EachWord P (Token.closing ∷ ts) = EachWord P ts
EachWord P (Token.word w ∷ ts) = P w × EachWord P ts

abbrev pub WordBytes : List Token → Type 0
WordBytes ts = EachWord IsWord ts
