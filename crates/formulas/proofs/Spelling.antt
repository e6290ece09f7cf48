-- Formulas are read as they are spelled: the tokens of a formula are read as this formula, and the items that tokens
-- are read as spell these tokens.
--
--   spelled_items m   the tokens of the items m
--   AreSentences m    the formulas of m pass is_sentence
--   Spells ts x       the items x, if any, are of formulas, and their tokens are ts
-- Assumes nothing.
use mathlib.Core.Path.{◌≡◌, refl, ap, ◌∙◌}
use mathlib.Core.Bool.{true}
use mathlib.Core.List.{List, [], ◌∷◌, ◌++◌, append_assoc}
use mathlib.Core.Option.{Option}
use Prim.Native.Nat.{ℕ, ◌-◌, ◌≤◌}
use native.Mathlib.Omega.{arith}
use lib.ListN.{get_or}
use borrow.Author.Tests.{leb-true, le-leb}
use Rattle.text.specs.Tokens.{Token}
use Rattle.text.specs.Words.{begins_with_letter}
use Rattle.text.proofs.ByteLaws.{and_true_both}
use Rattle.text.proofs.Each.{Each, each_append}
use Rattle.formulas.specs.Sentence.{Sentence, form_words, tokens_of, is_sentence, sentence_names}
use Rattle.formulas.specs.Items.{prepend, Item, with_form, items_of}
use Rattle.formulas.specs.Parsing.{Items}
use Rattle.formulas.proofs.Keywords.{word-node}
use Rattle.formulas.proofs.Forms.{closed-among, negation_items, joined_items}
use Rattle.formulas.proofs.Reading.{Read, items_read, items_closing, items_name, items_form}

-- What is spelled is read

-- what a form that passes is_sentence is made of
pub record JoinedSentence (k : ℕ) (f g : Sentence) : Type 0 where
  pub low : 65 ≤ k
  pub high : k ≤ 68
  pub first : is_sentence f ≡ true
  pub second : is_sentence g ≡ true

pub joined-sentence : (k : ℕ) (f g : Sentence) → is_sentence (Sentence.joined k f g) ≡ true → JoinedSentence k f g
unfolding is_sentence
joined-sentence k f g h =
    let a = and_true_both _ _ h in
    let b = and_true_both _ _ a.0 in
    let c = and_true_both _ _ b.0 in
    record { low = leb-true 65 k c.0; high = leb-true k 68 c.1; first = b.1; second = a.1 }

-- its names begin with a letter
abbrev pub Lettered : List ℕ → Type 0
Lettered w = begins_with_letter w ≡ true

pub sentence-lettered : (f : Sentence) → is_sentence f ≡ true → Each Lettered (sentence_names f)
unfolding is_sentence sentence_names
sentence-lettered (Sentence.name w) h = (h, tt)
sentence-lettered (Sentence.negation f) h = sentence-lettered f h
sentence-lettered (Sentence.joined k f g) h =
    let j = joined-sentence k f g h in
    each_append Lettered (sentence_names f) _ (sentence-lettered f j.first) (sentence-lettered g j.second)

-- the tokens us of a form's operands and closing bracket, in front of the tokens ts
module _ (us ts : List Token) where
  -- a form's word in front of what us are read as
  form-tokens : (k : ℕ) (x : Items) → 64 ≤ k → k ≤ 68 → items_of us ≡ x
      → items_of (Token.opening ∷ (Token.word (get_or form_words (k - 64) []) ∷ us)) ≡ with_form k x
  form-tokens k x a b e = rw (items_form, word-node k a b, e)

  negation-tokens : (f : Sentence) → items_of us ≡ prepend (Item.formula f) (items_of (Token.closing ∷ ts))
      → items_of (Token.opening ∷ (Token.word (get_or form_words 0 []) ∷ us))
      ≡ prepend (Item.formula (Sentence.negation f)) (items_of ts)
  negation-tokens f e =
      form-tokens 64 _ (omega arith) (omega arith) e ∙ negation_items 64 f (items_of (Token.closing ∷ ts)) refl
      ∙ rw items_closing (closed-among (Sentence.negation f) (items_of ts))

  joined-tokens : (k : ℕ) (f g : Sentence) → 65 ≤ k → k ≤ 68
      → items_of us ≡ prepend (Item.formula f) (prepend (Item.formula g) (items_of (Token.closing ∷ ts)))
      → items_of (Token.opening ∷ (Token.word (get_or form_words (k - 64) []) ∷ us))
      ≡ prepend (Item.formula (Sentence.joined k f g)) (items_of ts)
  joined-tokens k f g a b e =
      form-tokens k _ (omega arith) b e ∙ joined_items k f g (items_of (Token.closing ∷ ts)) b (λ z. omega arith)
      ∙ rw items_closing (closed-among (Sentence.joined k f g) (items_of ts))

pub tokens_of-read : (f : Sentence) (ts : List Token) → is_sentence f ≡ true
    → items_of (tokens_of f ++ ts) ≡ prepend (Item.formula f) (items_of ts)
unfolding tokens_of is_sentence
tokens_of-read (Sentence.name w) ts h = items_name ts w h
tokens_of-read (Sentence.negation f) ts h =
    let us = Token.closing ∷ ts in
    rw append_assoc (negation-tokens (tokens_of f ++ us) ts f (tokens_of-read f us h))
tokens_of-read (Sentence.joined k f g) ts h =
    let j = joined-sentence k f g h in
    let us = tokens_of g ++ (Token.closing ∷ ts) in
    let d = tokens_of-read g (Token.closing ∷ ts) j.second in
    let e = tokens_of-read f us j.first ∙ ap (prepend (Item.formula f)) d in
    rw (append_assoc, append_assoc) (joined-tokens (tokens_of f ++ us) ts k f g j.low j.high e)

-- What is read is spelled

unfoldable pub spelled_items : List Item → List Token
spelled_items [] = []
spelled_items (Item.closing ∷ m) = Token.closing ∷ spelled_items m
spelled_items (Item.formula f ∷ m) = tokens_of f ++ spelled_items m

abbrev pub AreSentences : List Item → Type 0
AreSentences [] = Unit {0}
AreSentences (Item.closing ∷ m) = AreSentences m
AreSentences (Item.formula f ∷ m) = (is_sentence f ≡ true) × AreSentences m

abbrev pub Spells : List Token → Items → Type 0
Spells ts Option.none = Unit {0}
Spells ts (Option.some m) = (ts ≡ spelled_items m) × AreSentences m

read-spells : {ts : List Token} {x : Items} → Read ts x → Spells ts x
unfolding spelled_items tokens_of is_sentence
read-spells Read.nothing = tt
read-spells Read.end = (refl, tt)
read-spells (Read.closing r) = let h = read-spells r in (ap (λ us. Token.closing ∷ us) h.0, h.1)
read-spells (Read.name {w} e r) = let h = read-spells r in (ap (λ us. Token.word w ∷ us) h.0, (e, h.1))
read-spells (Read.negation e r) = let h = read-spells r in (rw (append_assoc, e, h.0), h.1)
read-spells (Read.joined {k} b e r) =
    let h = read-spells r in (
      rw (append_assoc, append_assoc, e, h.0),
      (rw (le-leb 65 k b.0, le-leb k 68 b.1, h.1.0, h.1.1.0), h.1.1.1),
    )

pub items_spell : (ts : List Token) → Spells ts (items_of ts)
items_spell ts = read-spells (items_read ts)
