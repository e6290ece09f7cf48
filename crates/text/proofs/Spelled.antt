-- What is spelled is read: the tokens of the text of tokens, and the lines of the text of lines; the bytes that stand
-- in the text of tokens; and how long both texts are. Assumes nothing.
use mathlib.Core.Path.{◌≡◌, refl, ap, ◌∙◌}
use mathlib.Core.Bool.{Bool, true, false}
use mathlib.Core.List.{List, [], ◌∷◌, ◌++◌, append_assoc, append-nil}
use Prim.Native.Nat.{ℕ, ◌+◌, ◌*◌, ◌≤◌, ◌<◌}
use native.Mathlib.Nat.{not-suc-le-zero, suc-mul}
use native.Mathlib.Omega.{arith}
use lib.ListN.{length, length-append}
use borrow.Author.Tests.{ne_eqb}
use Rattle.text.specs.Bytes.{is_word_byte, is_allowed, all_of}
use Rattle.text.specs.Lines.{lines_from, lines, is_comment}
use Rattle.text.specs.Tokens.{Token, ended, tokens_from, tokens}
use Rattle.text.specs.Words.{IsWord, EachWord, WordBytes}
use Rattle.text.specs.Spelled.{spelled_from, spelled, text_of}
use Rattle.text.proofs.ByteLaws.{all_head, all_tail, all_append, all_gives, allowed_word, allowed_not_feed}
use Rattle.text.proofs.Each.{Each}
use Rattle.text.proofs.TokenLaws.{ended-word}

-- ---- tokens
-- a word's bytes go to the word
word_in : (u v l : List ℕ) → all_of is_word_byte v ≡ true → tokens_from u (v ++ l) ≡ tokens_from (u ++ v) l
unfolding tokens_from
word_in u [] l h = rw append-nil
word_in u (b ∷ v) l h =
    rw (all_head is_word_byte b v h) (word_in (u ++ (b ∷ [])) v l (all_tail is_word_byte b v h) ∙ rw append_assoc)

-- w is the part of a word that has begun
abbrev begun : List ℕ → Bool
begun [] = false
begun (b ∷ w) = true

begun-word : (w : List ℕ) → 0 < length w → begun w ≡ true
begun-word [] h = absurd (not-suc-le-zero h)
begun-word (b ∷ w) h = refl

word-behind : (v : List ℕ) (ts : List Token) → IsWord v → tokens_from v (spelled_from true ts) ≡ ended v ts
    → tokens_from [] (v ++ spelled_from true ts) ≡ Token.word v ∷ ts
word-behind v ts h e = word_in [] v (spelled_from true ts) h.1 ∙ e ∙ ended-word v ts h.0

-- the tokens of a text behind the part w of a word
spelled-behind : (w : List ℕ) (ts : List Token) → WordBytes ts → tokens_from w (spelled_from (begun w) ts) ≡ ended w ts
unfolding tokens_from spelled_from is_word_byte
spelled-behind w [] h = refl
spelled-behind w (Token.opening ∷ ts) h = ap (λ us. ended w (Token.opening ∷ us)) (spelled-behind [] ts h)
spelled-behind w (Token.closing ∷ ts) h = ap (λ us. ended w (Token.closing ∷ us)) (spelled-behind [] ts h)
spelled-behind [] (Token.word v ∷ ts) h = word-behind v ts h.0
    (rw (begun-word v h.0.0) at (spelled-behind v ts h.1))
spelled-behind (b ∷ w) (Token.word v ∷ ts) h = ap (λ us. Token.word (b ∷ w) ∷ us) (word-behind v ts h.0
    (rw (begun-word v h.0.0) at (spelled-behind v ts h.1)))

pub spelled-read : (ts : List Token) → WordBytes ts → tokens (spelled ts) ≡ ts
spelled-read ts h = spelled-behind [] ts h

-- a bracket's text is the bracket
pub spelled-closing : (b : Bool) → spelled_from b (Token.closing ∷ []) ≡ 41 ∷ []
unfolding spelled_from
spelled-closing b = refl

-- ---- bytes
word_allowed : (w l : List ℕ) → IsWord w → all_of is_allowed l ≡ true → all_of is_allowed (w ++ l) ≡ true
word_allowed w l h k = all_append is_allowed w l (all_gives is_word_byte is_allowed allowed_word w h.1) k

allowed_from : (b : Bool) (ts : List Token) → WordBytes ts → all_of is_allowed (spelled_from b ts) ≡ true
unfolding spelled_from all_of is_allowed is_word_byte
allowed_from b [] h = refl
allowed_from b (Token.opening ∷ ts) h = allowed_from false ts h
allowed_from b (Token.closing ∷ ts) h = allowed_from false ts h
allowed_from false (Token.word w ∷ ts) h = word_allowed w _ h.0 (allowed_from true ts h.1)
allowed_from true (Token.word w ∷ ts) h = word_allowed w _ h.0 (allowed_from true ts h.1)

pub spelled_allowed : (ts : List Token) → WordBytes ts → all_of is_allowed (spelled ts) ≡ true
spelled_allowed ts h = allowed_from false ts h

-- a line without tokens is no comment, nor one that begins with a bracket
pub nothing_no_comment : is_comment (spelled []) ≡ false
unfolding spelled_from is_comment
nothing_no_comment = refl

pub spelled_no_comment : (ts : List Token) → is_comment (spelled (Token.opening ∷ ts)) ≡ false
unfolding spelled_from is_comment
spelled_no_comment ts = refl

-- ---- lines
-- no byte of l is LF
abbrev pub OneLine : List ℕ → Type 0
OneLine l = Each (λ b. b ≡ 10 → ⊥) l

abbrev pub EachOneLine : List (List ℕ) → Type 0
EachOneLine ls = Each OneLine ls

allowed_one_line : (l : List ℕ) → all_of is_allowed l ≡ true → OneLine l
allowed_one_line [] h = tt
allowed_one_line (b ∷ l) h =
    (allowed_not_feed b (all_head is_allowed b l h), allowed_one_line l (all_tail is_allowed b l h))

pub spelled-one-line : (ts : List Token) → WordBytes ts → OneLine (spelled ts)
spelled-one-line ts h = allowed_one_line (spelled ts) (spelled_allowed ts h)

line_in : (p l f : List ℕ) → OneLine l → lines_from p (l ++ (10 ∷ f)) ≡ (p ++ l) ∷ lines f
unfolding lines_from
line_in p [] f h = rw append-nil
line_in p (b ∷ l) f h = rw (ne_eqb b 10 h.0) (line_in (p ++ (b ∷ [])) l f h.1 ∙ rw append_assoc)

pub text-lines : (ls : List (List ℕ)) → EachOneLine ls → lines (text_of ls) ≡ ls
unfolding lines_from text_of
text-lines [] h = refl
text-lines (l ∷ ls) h = line_in [] l (text_of ls) h.0 ∙ rw (text-lines ls h.1)

pub text-append : (ls ms : List (List ℕ)) → text_of (ls ++ ms) ≡ text_of ls ++ text_of ms
unfolding text_of
text-append [] ms = refl
text-append (l ∷ ls) ms = rw (append_assoc l, text-append ls ms)

pub text-one : (l : List ℕ) → text_of (l ∷ []) ≡ l ++ (10 ∷ [])
unfolding text_of
text-one l = refl

pub text-none : text_of [] ≡ []
unfolding text_of
text-none = refl

-- ---- lengths
-- at most 21 bytes for each token whose words have at most 20
pub spelled_bound : (b : Bool) (ts : List Token) → EachWord (λ w. length w ≤ 20) ts
    → length (spelled_from b ts) ≤ 21 * length ts
unfolding spelled_from
spelled_bound b [] h = omega arith
spelled_bound b (Token.opening ∷ ts) h = omega (arith, spelled_bound false ts h)
spelled_bound b (Token.closing ∷ ts) h = omega (arith, spelled_bound false ts h)
spelled_bound false (Token.word w ∷ ts) h =
    omega (arith, h.0, length-append w (spelled_from true ts), spelled_bound true ts h.1)
spelled_bound true (Token.word w ∷ ts) h =
    omega (arith, h.0, length-append w (spelled_from true ts), spelled_bound true ts h.1)

pub text_bound : (m : ℕ) (ls : List (List ℕ)) → Each (λ l. length l ≤ m) ls
    → length (text_of ls) ≤ length ls * (m + 1)
unfolding text_of
text_bound m [] h = omega arith
text_bound m (l ∷ ls) h =
    rw suc-mul (omega (arith, h.0, length-append l (10 ∷ text_of ls), text_bound m ls h.1))
