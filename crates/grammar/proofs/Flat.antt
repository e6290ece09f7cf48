-- The words of a flat line: how they are spelled, and what a line is where none are left, or more.
--
--   Wordless x          the words x are none, or no word
--   Followed x          the words x are none, or there is a word
--   flat_tokens ws      the tokens of a flat line from its words ws on
--   FlatSpells ts x     the words x, if any, are spelled by ts
--   LineSpells k ws x   the line x is no form, or spelled by the word of kind k and the words ws
--   OneWord k           a line of kind k with a second word is no form
-- Assumes nothing.
use mathlib.Core.Path.{◌≡◌, refl, sym, ap, ◌∙◌, subst}
use mathlib.Core.Bool.{true, false, true≢false}
use mathlib.Core.List.{List, [], ◌∷◌}
use mathlib.Core.Logic.{◌⊎◌, inl, inr}
use mathlib.Core.Option.{Option}
use Prim.Native.Nat.{ℕ, ◌≤◌}
use lib.ListN.{drop, get_or}
use lib.Seq.{slice}
use borrow.Author.Tests.{le-ltb}
use Rattle.text.specs.Tokens.{Token, tokens}
use Rattle.text.specs.Words.{begins_with_letter}
use Rattle.text.specs.Scanning.{Found, begins_word, begins_name}
use Rattle.text.specs.declared.tokens.Next.TheVariants.{Word}
use Rattle.formulas.specs.Items.{prepend, Item, items_of}
use Rattle.formulas.proofs.Reading.{items_end, items_closing}
use Rattle.formulas.proofs.Spelling.{spelled_items, Spells, items_spell}
use Rattle.grammar.specs.Line.{Line, line_words, line_tokens, is_line}
use Rattle.grammar.specs.LineOf.{flat_words, flat_line, with_words}
use Rattle.grammar.specs.Parsing.{ends_items, ends_line, FormAfter}
use Rattle.std.specs.Prelude.{None}
use Rattle.grammar.proofs.Forms.{ends_is}

-- the words of a flat line, or none
abbrev pub Words : Type 0
Words = Option (List (List ℕ))

abbrev pub Wordless : Words → Type 0
Wordless x = (x ≡ Option.none) ⊎ (x ≡ Option.some [])

abbrev pub Followed : Words → Type 0
Followed Option.none = Unit {0}
Followed (Option.some []) = ⊥
Followed (Option.some (w ∷ ws)) = Unit {0}

closed_wordless : (ts : List Token) → Wordless (flat_words (Token.closing ∷ ts))
unfolding flat_words
closed_wordless [] = inr refl
closed_wordless (t ∷ ts) = inl refl

pub word_wordless : (ts : List Token) → begins_word ts ≡ false → Wordless (flat_words ts)
unfolding flat_words
word_wordless [] h = inl refl
word_wordless (Token.opening ∷ ts) h = inl refl
word_wordless (Token.closing ∷ ts) h = closed_wordless ts
word_wordless (Token.word w ∷ ts) h = absurd (true≢false h)

-- What is read is spelled

unfoldable pub flat_tokens : List (List ℕ) → List Token
flat_tokens [] = Token.closing ∷ []
flat_tokens (w ∷ ws) = Token.word w ∷ flat_tokens ws

abbrev pub FlatSpells : List Token → Words → Type 0
FlatSpells ts Option.none = Unit {0}
FlatSpells ts (Option.some ws) = ts ≡ flat_tokens ws

word-spells : (w : List ℕ) (ts : List Token) (x : Words) → FlatSpells ts x
    → FlatSpells (Token.word w ∷ ts) (prepend w x)
unfolding flat_tokens
word-spells w ts Option.none h = tt
word-spells w ts (Option.some ws) h = ap (λ us. Token.word w ∷ us) h

pub flat_spells : (ts : List Token) → FlatSpells ts (flat_words ts)
unfolding flat_words flat_tokens
flat_spells [] = tt
flat_spells (Token.opening ∷ ts) = tt
flat_spells (Token.closing ∷ []) = refl
flat_spells (Token.closing ∷ (t ∷ ts)) = tt
flat_spells (Token.word w ∷ ts) = word-spells w ts (flat_words ts) (flat_spells ts)

abbrev pub LineSpells : ℕ → List (List ℕ) → Line → Type 0
LineSpells k ws x =
    (x ≡ Line.no_form)
    ⊎ ((is_line x ≡ true) × (line_tokens x ≡ Token.opening ∷ (Token.word (get_or line_words k []) ∷ flat_tokens ws)))

-- The words at a place of a line

pub flat_word : {l : List ℕ} {at a e : ℕ} → Found l at (Word a e)
    → flat_words (tokens (drop at l)) ≡ prepend (slice a e l) (flat_words (tokens (drop e l)))
unfolding flat_words
flat_word t = rw t.tokens_are

-- a closing bracket alone has no words
ended-tokens : (ts : List Token) → items_of ts ≡ Option.some (Item.closing ∷ []) → ts ≡ Token.closing ∷ []
unfolding spelled_items
ended-tokens ts e = (subst (Spells ts) e (items_spell ts)).0

pub ended-words : (ts : List Token) → ends_items (items_of ts) ≡ true → flat_words ts ≡ Option.some []
unfolding flat_words
ended-words ts h = rw (ended-tokens ts (ends_is (items_of ts) h))

word_follows : (w : List ℕ) (x : Words) → Followed (prepend w x)
word_follows w Option.none = tt
word_follows w (Option.some ws) = tt

pub unended-words : (ts : List Token) → ends_items (items_of ts) ≡ false → Followed (flat_words ts)
unfolding flat_words
unended-words [] h = tt
unended-words (Token.opening ∷ ts) h = tt
unended-words (Token.closing ∷ []) h = absurd (true≢false (sym (rw (items_closing, items_end)) ∙ h))
unended-words (Token.closing ∷ (t ∷ ts)) h = tt
unended-words (Token.word w ∷ ts) h = word_follows w (flat_words ts)

-- a kind of line that needs a word
wordless_line : (k : ℕ) → flat_line k [] ≡ Line.no_form → (x : Words) → Wordless x → with_words k x ≡ Line.no_form
wordless_line k n x (inl e) = rw e
wordless_line k n x (inr e) = rw e n

-- a kind of line that has one word at most
abbrev OneWord : ℕ → Type 0
OneWord k = (w v : List ℕ) (ws : List (List ℕ)) → flat_line k (w ∷ (v ∷ ws)) ≡ Line.no_form

wrong_line : (k : ℕ) → OneWord k → (w : List ℕ) → flat_line k (w ∷ []) ≡ Line.no_form → (x : Words)
    → with_words k (prepend w x) ≡ Line.no_form
wrong_line k one w n Option.none = refl
wrong_line k one w n (Option.some []) = n
wrong_line k one w n (Option.some (v ∷ ws)) = one w v ws

unended-line : (k : ℕ) → OneWord k → (w : List ℕ) (x : Words) → Followed x → with_words k (prepend w x) ≡ Line.no_form
unended-line k one w Option.none h = refl
unended-line k one w (Option.some []) h = absurd h
unended-line k one w (Option.some (v ∷ ws)) h = one w v ws

-- a kind of line that needs a name
unnamed_line : (k : ℕ) → flat_line k [] ≡ Line.no_form
    → ((w : List ℕ) → begins_with_letter w ≡ false → (x : Words) → with_words k (prepend w x) ≡ Line.no_form)
    → (ts : List Token) → begins_name ts ≡ false → with_words k (flat_words ts) ≡ Line.no_form
unfolding flat_words
unnamed_line k n f [] h = refl
unnamed_line k n f (Token.opening ∷ ts) h = refl
unnamed_line k n f (Token.closing ∷ ts) h = wordless_line k n (flat_words (Token.closing ∷ ts)) (closed_wordless ts)
unnamed_line k n f (Token.word w ∷ ts) h = f w h (flat_words ts)

-- no form of a flat kind, by the words behind the line's word

pub flat_none : {l : List ℕ} {at k : ℕ} → 7 ≤ k → with_words k (flat_words (tokens (drop at l))) ≡ Line.no_form
    → FormAfter l at k None
flat_none {k = k} i h = record { form-is = rw (le-ltb k 7 i) h }

module _ (k : ℕ) (i : 7 ≤ k) where
  pub wordless_form : flat_line k [] ≡ Line.no_form → (l : List ℕ) (at : ℕ)
      → begins_word (tokens (drop at l)) ≡ false → FormAfter l at k None
  wordless_form n l at h = flat_none i (wordless_line k n _ (word_wordless (tokens (drop at l)) h))

  pub unnamed_form : flat_line k [] ≡ Line.no_form
      → ((w : List ℕ) → begins_with_letter w ≡ false → (x : Words) → with_words k (prepend w x) ≡ Line.no_form)
      → (l : List ℕ) (at : ℕ) → begins_name (tokens (drop at l)) ≡ false → FormAfter l at k None
  unnamed_form n f l at h = flat_none i (unnamed_line k n f (tokens (drop at l)) h)

  module _ (one : OneWord k) {l : List ℕ} {at a e : ℕ} (t : Found l at (Word a e)) where
    pub wrong_form : flat_line k (slice a e l ∷ []) ≡ Line.no_form → FormAfter l at k None
    wrong_form n =
        flat_none i (rw (flat_word t) (wrong_line k one (slice a e l) n (flat_words (tokens (drop e l)))))

    pub unended-form : ends_line l e ≡ false → FormAfter l at k None
    unfolding ends_line
    unended-form h =
        let f = unended-words (tokens (drop e l)) h in
        flat_none i (rw (flat_word t) (unended-line k one (slice a e l) (flat_words (tokens (drop e l))) f))
