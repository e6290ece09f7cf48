-- What the words of a line are made of: at least one byte, and bytes that stand in words only; that none is longer than
-- the line; what a name begins with; and that a word of letters is a word.
--
--   are_letters w       each byte of w is a letter
--   are_lettered ws     each of the words ws has a byte, and letters only
-- Assumes nothing.
use mathlib.Core.Path.{◌≡◌, refl}
use mathlib.Core.Bool.{Bool, true, false, ◌&&◌, false≢true}
use mathlib.Core.List.{List, [], ◌∷◌, ◌++◌}
use Prim.Native.Nat.{ℕ, ◌+◌, ◌≤◌, ◌<◌}
use native.Mathlib.Omega.{arith}
use lib.Dec.{eqb, leb}
use lib.ListN.{length, get_or, length-append}
use lib.Seq.{slice, slice-cons}
use borrow.Author.Tests.{leb-true}
use Rattle.words.specs.Choice.{pick, cons_if}
use Rattle.text.specs.Bytes.{is_letter, is_word_byte, all_of}
use Rattle.text.specs.Tokens.{Token, ended, bracket, tokens_from, tokens}
use Rattle.text.specs.Words.{begins_with_letter, is_name_behind, names_from, names_in, IsWord, EachWord, WordBytes}
use Rattle.text.proofs.Each.{Each}
use Rattle.text.proofs.ByteLaws.{letter_word_byte, and_true_both, all_push}

-- ---- what holds of each word of a list of tokens
module _ (P : List ℕ → Type 0) where
  picked-each : (t : Bool) (x y : List Token) → (t ≡ true → EachWord P x) → (t ≡ false → EachWord P y)
      → EachWord P (pick t x y)
  picked-each true x y f g = f refl
  picked-each false x y f g = g refl

  bracket-each : (b : ℕ) (ts : List Token) → EachWord P ts → EachWord P (bracket b ts)
  bracket-each b ts h = picked-each (eqb b 40) _ _ (λ _. h) (λ _. picked-each (eqb b 41) _ _ (λ _. h) (λ _. h))

  kept-each : (t : Bool) (w : List ℕ) (ws : List (List ℕ)) → P w → Each P ws → Each P (cons_if t w ws)
  kept-each true w ws h k = (h, k)
  kept-each false w ws h k = k

  names-each : (b : Bool) (ts : List Token) → EachWord P ts → Each P (names_from b ts)
  unfolding names_from
  names-each b [] h = tt
  names-each b (Token.opening ∷ ts) h = names-each true ts h
  names-each b (Token.closing ∷ ts) h = names-each false ts h
  names-each b (Token.word w ∷ ts) h =
      kept-each (is_name_behind b w) w (names_from false ts) h.0 (names-each false ts h.1)

-- ---- the bytes of words
ended-bytes : (w : List ℕ) (ts : List Token) → all_of is_word_byte w ≡ true → WordBytes ts
    → WordBytes (ended w ts)
ended-bytes [] ts h k = k
ended-bytes (b ∷ w) ts h k = ((omega arith, h), k)

tokens-from-bytes : (w l : List ℕ) → all_of is_word_byte w ≡ true → WordBytes (tokens_from w l)
unfolding tokens_from all_of
tokens-from-bytes w [] h = ended-bytes w [] h tt
tokens-from-bytes w (b ∷ l) h =
    picked-each IsWord (is_word_byte b) _ _
    (λ t. tokens-from-bytes (w ++ (b ∷ [])) l (all_push is_word_byte w b h t))
    (λ _. ended-bytes w _ h (bracket-each IsWord b _ (tokens-from-bytes [] l refl)))

pub line-names_are_words : (l : List ℕ) → Each IsWord (names_in (tokens l))
unfolding all_of
line-names_are_words l = names-each IsWord false (tokens l) (tokens-from-bytes [] l refl)

-- ---- no word is longer than its line
abbrev AtMost : ℕ → List ℕ → Type 0
AtMost n w = length w ≤ n

ended-short : (n : ℕ) (w : List ℕ) (ts : List Token) → length w ≤ n → EachWord (AtMost n) ts
    → EachWord (AtMost n) (ended w ts)
ended-short n [] ts h k = k
ended-short n (b ∷ w) ts h k = (h, k)

tokens-from-short : (n : ℕ) (w l : List ℕ) → length w + length l ≤ n → EachWord (AtMost n) (tokens_from w l)
unfolding tokens_from
tokens-from-short n w [] h = ended-short n w [] (omega arith) tt
tokens-from-short n w (b ∷ l) h =
    picked-each (AtMost n) (is_word_byte b) _ _
    (λ t. tokens-from-short n (w ++ (b ∷ [])) l (omega (arith, length-append w (b ∷ []))))
    (λ _. ended-short n w _ (omega arith)
    (bracket-each (AtMost n) b _ (tokens-from-short n [] l (omega arith))))

pub line-names_are_short : (n : ℕ) (l : List ℕ) → length l ≤ n → Each (AtMost n) (names_in (tokens l))
line-names_are_short n l h = names-each (AtMost n) false (tokens l) (tokens-from-short n [] l (omega arith))

-- a word is a name by its first byte
pub name-first : (l : List ℕ) (a e : ℕ) → a < e → e ≤ length l
    → begins_with_letter (slice a e l) ≡ is_letter (get_or l a 0)
unfolding begins_with_letter
name-first l a e h k = rw (slice-cons a e l 0 h k)

pub lettered-some : (w : List ℕ) → begins_with_letter w ≡ true → 0 < length w
unfolding begins_with_letter
lettered-some [] e = absurd (false≢true e)
lettered-some (b ∷ w) e = omega arith

-- ---- words of letters
abbrev are_letters : List ℕ → Bool
are_letters [] = true
are_letters (b ∷ w) = is_letter b && are_letters w

abbrev pub are_lettered : List (List ℕ) → Bool
are_lettered [] = true
are_lettered (w ∷ ws) = leb 1 (length w) && are_letters w && are_lettered ws

letters_bytes : (w : List ℕ) → are_letters w ≡ true → all_of is_word_byte w ≡ true
unfolding all_of
letters_bytes [] h = refl
letters_bytes (b ∷ w) h =
    let a = and_true_both (is_letter b) (are_letters w) h in
    rw (letter_word_byte b a.0) (letters_bytes w a.1)

pub lettered-words : (ws : List (List ℕ)) → are_lettered ws ≡ true → Each IsWord ws
lettered-words [] h = tt
lettered-words (w ∷ ws) h =
    let a = and_true_both (leb 1 (length w) && are_letters w) (are_lettered ws) h in
    let b = and_true_both (leb 1 (length w)) (are_letters w) a.0 in
    ((leb-true 1 (length w) b.0, letters_bytes w b.1), lettered-words ws a.1)
