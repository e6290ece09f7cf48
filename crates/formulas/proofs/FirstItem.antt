-- What items begin with, by the tokens or by the token that was found in front of them.
--
--   Filled x       x is none or not empty
--   name_first x   x begins with a name
-- Assumes nothing.
use mathlib.Core.Path.{◌≡◌, refl}
use mathlib.Core.Bool.{Bool, true, false, true≢false}
use mathlib.Core.List.{List, [], ◌∷◌}
use mathlib.Core.Option.{Option}
use Prim.Native.Nat.{ℕ}
use lib.ListN.{drop}
use Rattle.text.specs.Tokens.{Token, tokens}
use Rattle.text.specs.Scanning.{Found, first_token, begins_word, begins_name, begins_closing}
use Rattle.text.specs.declared.tokens.Next.{Next}
use Rattle.text.specs.declared.tokens.Next.TheVariants.{End, Open, Close, Word}
use Rattle.formulas.specs.Sentence.{Sentence}
use Rattle.formulas.specs.Items.{Item, items_of}
use Rattle.formulas.specs.Parsing.{Items, begins_formula, closed_among}
use Rattle.formulas.proofs.Reading.{Read, items_read}

abbrev pub Filled : Items → Type 0
Filled Option.none = Unit {0}
Filled (Option.some []) = ⊥
Filled (Option.some (i ∷ l)) = Unit {0}

abbrev pub name_first : Items → Bool
name_first Option.none = false
name_first (Option.some []) = false
name_first (Option.some (Item.closing ∷ l)) = false
name_first (Option.some (Item.formula (Sentence.name w) ∷ l)) = true
name_first (Option.some (Item.formula (Sentence.negation f) ∷ l)) = false
name_first (Option.some (Item.formula (Sentence.joined k f g) ∷ l)) = false

-- By the first token

read-filled : {t : Token} {ts : List Token} {x : Items} → Read (t ∷ ts) x → Filled x
read-filled Read.nothing = tt
read-filled (Read.closing r) = tt
read-filled (Read.name e r) = tt
read-filled (Read.negation e r) = tt
read-filled (Read.joined b e r) = tt

token_filled : (t : Token) (ts : List Token) → Filled (items_of (t ∷ ts))
token_filled t ts = read-filled (items_read (t ∷ ts))

opening-unclosed : {ts : List Token} {x : Items} (f : Sentence) → Read (Token.opening ∷ ts) x
    → closed_among f x ≡ Option.none
opening-unclosed f Read.nothing = refl
opening-unclosed f (Read.negation e r) = refl
opening-unclosed f (Read.joined b e r) = refl

opening_unnamed : {ts : List Token} {x : Items} → Read (Token.opening ∷ ts) x → name_first x ≡ false
opening_unnamed Read.nothing = refl
opening_unnamed (Read.negation e r) = refl
opening_unnamed (Read.joined b e r) = refl

closing_unnamed : {ts : List Token} {x : Items} → Read (Token.closing ∷ ts) x → name_first x ≡ false
closing_unnamed Read.nothing = refl
closing_unnamed (Read.closing r) = refl

closing_begins : {ts : List Token} {x : Items} → Read (Token.closing ∷ ts) x → begins_formula x ≡ false
closing_begins Read.nothing = refl
closing_begins (Read.closing r) = refl

word-unclosed : {w : List ℕ} {ts : List Token} {x : Items} (f : Sentence) → Read (Token.word w ∷ ts) x
    → closed_among f x ≡ Option.none
word-unclosed f Read.nothing = refl
word-unclosed f (Read.name e r) = refl

-- By the tokens, where they do not begin with what was looked for

pub unclosed_items : (ts : List Token) → begins_closing ts ≡ false → (f : Sentence)
    → closed_among f (items_of ts) ≡ Option.none
unfolding items_of
unclosed_items [] h f = refl
unclosed_items (Token.opening ∷ ts) h f = opening-unclosed f (items_read (Token.opening ∷ ts))
unclosed_items (Token.closing ∷ ts) h f = absurd (true≢false h)
unclosed_items (Token.word w ∷ ts) h f = word-unclosed f (items_read (Token.word w ∷ ts))

pub unnamed_items : (ts : List Token) → begins_name ts ≡ false → name_first (items_of ts) ≡ false
unfolding items_of
unnamed_items [] h = refl
unnamed_items (Token.opening ∷ ts) h = opening_unnamed (items_read (Token.opening ∷ ts))
unnamed_items (Token.closing ∷ ts) h = closing_unnamed (items_read (Token.closing ∷ ts))
unnamed_items (Token.word w ∷ ts) h = rw h

-- behind an opening bracket
pub wordless_items : (ts : List Token) → begins_word ts ≡ false → items_of (Token.opening ∷ ts) ≡ Option.none
unfolding items_of
wordless_items [] h = refl
wordless_items (Token.opening ∷ ts) h = refl
wordless_items (Token.closing ∷ ts) h = refl
wordless_items (Token.word w ∷ ts) h = absurd (true≢false h)

-- By what was found

module _ (l : List ℕ) where
  first-filled : (r : Next) → (r ≡ End → ⊥) → Filled (items_of (first_token l r))
  first-filled End h = absurd (h refl)
  first-filled (Open n) h = token_filled _ _
  first-filled (Close n) h = token_filled _ _
  first-filled (Word a e) h = token_filled _ _

  first_begins : (r : Next) → ((n : ℕ) → r ≡ Open n → ⊥) → ((a e : ℕ) → r ≡ Word a e → ⊥)
      → begins_formula (items_of (first_token l r)) ≡ false
  unfolding items_of
  first_begins End h k = refl
  first_begins (Open n) h k = absurd (h n refl)
  first_begins (Close n) h k = closing_begins (items_read (first_token l (Close n)))
  first_begins (Word a e) h k = absurd (k a e refl)

module _ {l : List ℕ} {at : ℕ} {r : Next} (t : Found l at r) where
  pub found-filled : (r ≡ End → ⊥) → Filled (items_of (tokens (drop at l)))
  found-filled h = rw t.tokens_are (first-filled l r h)

  pub found_begins : ((n : ℕ) → r ≡ Open n → ⊥) → ((a e : ℕ) → r ≡ Word a e → ⊥)
      → begins_formula (items_of (tokens (drop at l))) ≡ false
  found_begins h k = rw t.tokens_are (first_begins l r h k)
