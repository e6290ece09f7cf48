-- What scanning a file or a line from a place finds, in the code's places.
--
--   LineEnds f at e    the line that starts at place at of the file f ends before place e
--   WordEnds l at e    the word that starts at place at of the line l ends before place e
--   first_token l r    the tokens that begin with what r found in the line l
--   Found l at r       r is the first token at or behind place at of the line l
--   WordNext l at r    r is the word that stands next at or behind place at, by its first place and the place behind
--                      it, or none
--   NameNext l at r    the same of a word that is a name
--   CloseNext l at r   r is the place behind the closing bracket that stands next, or none
--   first_name l r     the names that begin with what r found in the line l
--   NameFound l at r   r is the first name at or behind place at of the line l, where no bracket is open at that place,
--                      by its first place and the place behind it, or none
--   DigitsRead w r     r is the number that the digits w stand for, or that they are none
--   NumberRead w r     r is the number that the word w is, or that it is none
use Rattle.std.specs.Prelude.{◌≡◌, Bool, true, false, List, [], ◌∷◌, ℕ, ◌+◌, ◌≤◌, ◌<◌, length, drop, Option}
use Rattle.std.specs.Prelude.{Some, None}
use Rattle.std.proofs.Math.Seq.{slice}
use Rattle.text.specs.declared.tokens.Next.{Next}
use Rattle.text.specs.declared.tokens.Next.TheVariants.{End, Open, Close, Word}
use Rattle.text.specs.Lines.{lines}
use Rattle.text.specs.Tokens.{Token, tokens}
use Rattle.text.specs.Words.{begins_with_letter, names_in}
use Rattle.text.specs.Numbers.{number_of, are_digits, is_number}

pub record LineEnds (f : List ℕ) (at e : ℕ) : Type 0 where
  pub onward : at ≤ e
  pub within : e ≤ length f
  pub lines_are : lines (drop at f) ≡ slice at e f ∷ lines (drop (e + 1) f)

pub record WordEnds (l : List ℕ) (at e : ℕ) : Type 0 where
  pub onward : at < e
  pub within : e ≤ length l
  pub tokens_are : tokens (drop at l) ≡ Token.word (slice at e l) ∷ tokens (drop e l)

abbrev pub first_token : List ℕ → Next → List Token
first_token l End = []
first_token l (Open n) = Token.opening ∷ tokens (drop n l)
first_token l (Close n) = Token.closing ∷ tokens (drop n l)
first_token l (Word a e) = Token.word (slice a e l) ∷ tokens (drop e l)

-- what was found lies in the line, behind place at
abbrev pub Inside : List ℕ → ℕ → Next → Type 0
Inside l at End = Unit {0}
Inside l at (Open n) = (at < n) × (n ≤ length l)
Inside l at (Close n) = (at < n) × (n ≤ length l)
Inside l at (Word a e) = (at ≤ a) × (a < e) × (e ≤ length l)

pub record Found (l : List ℕ) (at : ℕ) (r : Next) : Type 0 where
  pub tokens_are : tokens (drop at l) ≡ first_token l r
  pub inside : Inside l at r

abbrev pub begins_word : List Token → Bool
begins_word [] = false
begins_word (Token.opening ∷ ts) = false
begins_word (Token.closing ∷ ts) = false
begins_word (Token.word w ∷ ts) = true

abbrev pub begins_name : List Token → Bool
begins_name [] = false
begins_name (Token.opening ∷ ts) = false
begins_name (Token.closing ∷ ts) = false
begins_name (Token.word w ∷ ts) = begins_with_letter w

abbrev pub begins_closing : List Token → Bool
begins_closing [] = false
begins_closing (Token.opening ∷ ts) = false
begins_closing (Token.closing ∷ ts) = true
begins_closing (Token.word w ∷ ts) = false

abbrev pub WordNext : List ℕ → ℕ → Option (ℕ × ℕ) → Type 0
WordNext l at None = begins_word (tokens (drop at l)) ≡ false
WordNext l at (Some (a, e)) = Found l at (Word a e)

-- the word from place a to place e stands next, and is a name
pub record NamedNext (l : List ℕ) (at a e : ℕ) : Type 0 where
  pub found : Found l at (Word a e)
  pub lettered : begins_with_letter (slice a e l) ≡ true

abbrev pub NameNext : List ℕ → ℕ → Option (ℕ × ℕ) → Type 0
NameNext l at None = begins_name (tokens (drop at l)) ≡ false
NameNext l at (Some (a, e)) = NamedNext l at a e

abbrev pub CloseNext : List ℕ → ℕ → Option ℕ → Type 0
CloseNext l at None = begins_closing (tokens (drop at l)) ≡ false
CloseNext l at (Some next) = Found l at (Close next)

abbrev pub first_name : List ℕ → Option (ℕ × ℕ) → List (List ℕ)
first_name l None = []
first_name l (Some (a, e)) = slice a e l ∷ names_in (tokens (drop e l))

-- a name that was found lies in the line, at or behind place at
abbrev pub NameInside : List ℕ → ℕ → Option (ℕ × ℕ) → Type 0
NameInside l at None = Unit {0}
NameInside l at (Some (a, e)) = (at ≤ a) × (a < e) × (e ≤ length l)

pub record NameFound (l : List ℕ) (at : ℕ) (r : Option (ℕ × ℕ)) : Type 0 where
  pub names_are : names_in (tokens (drop at l)) ≡ first_name l r
  pub inside : NameInside l at r

abbrev pub DigitsAre : List ℕ → Option ℕ → Type 0
DigitsAre w None = are_digits w ≡ false
DigitsAre w (Some n) = (are_digits w ≡ true) × (n ≡ number_of w)

pub record DigitsRead (w : List ℕ) (r : Option ℕ) : Type 0 where
  pub number_is : DigitsAre w r

abbrev pub NumberIs : List ℕ → Option ℕ → Type 0
NumberIs w None = is_number w ≡ false
NumberIs w (Some n) = (is_number w ≡ true) × (n ≡ number_of w)

pub record NumberRead (w : List ℕ) (r : Option ℕ) : Type 0 where
  pub number_is : NumberIs w r
