-- What tokens are read as, by cases: of a form by its operands, and of tokens by the first of them.
--
--   FormRead k x y      the form with node k in front of the items x makes them the items y
--   Read ts x           the tokens ts are read as the items x
-- Assumes nothing.
use mathlib.Core.Path.{◌≡◌, refl, sym}
use mathlib.Core.Bool.{Bool, true, false}
use mathlib.Core.List.{List, [], ◌∷◌}
use mathlib.Core.Option.{Option}
use Prim.Native.Nat.{ℕ, ◌-◌, ◌≤◌}
use native.Mathlib.Omega.{arith}
use lib.Dec.{eqb, ltb}
use lib.ListN.{get_or}
use borrow.Author.Tests.{eqb-true, eqb-false, ltb-false}
use Rattle.words.specs.Choice.{pick}
use Rattle.text.specs.Tokens.{Token}
use Rattle.text.specs.Words.{begins_with_letter}
use Rattle.formulas.specs.Sentence.{Sentence, form_words}
use Rattle.formulas.specs.Keyword.{node_of}
use Rattle.formulas.specs.Items.{prepend, Item, closed, with_first, with_form, items_of}
use Rattle.formulas.specs.Parsing.{Items}
use Rattle.formulas.proofs.Keywords.{node_ge, node-word}

-- Forms

pub data FormRead (k : ℕ) : Items → Items → Type 0 where
  no-form : {x : Items} → FormRead k x Option.none
  negation : {g : Sentence} {m : List Item} → k ≡ 64
      → FormRead k (Option.some (Item.formula g ∷ (Item.closing ∷ m)))
      (Option.some (Item.formula (Sentence.negation g) ∷ m))
  joined : {g h : Sentence} {m : List Item} → k ≤ 68 → (k ≡ 64 → ⊥)
      → FormRead k (Option.some (Item.formula g ∷ (Item.formula h ∷ (Item.closing ∷ m))))
      (Option.some (Item.formula (Sentence.joined k g h) ∷ m))

module _ (k : ℕ) where
  abbrev with_one : List Item → Items
  with_one l = with_first Option.none (λ f m. closed (Sentence.negation f) m) l

  abbrev with_two : List Item → Items
  with_two l = with_first Option.none (λ f m. with_first Option.none (λ g n. closed (Sentence.joined k f g) n) m) l

  one-read : (l : List Item) → k ≡ 64 → FormRead k (Option.some l) (with_one l)
  one-read [] q = FormRead.no-form
  one-read (Item.closing ∷ l) q = FormRead.no-form
  one-read (Item.formula f ∷ []) q = FormRead.no-form
  one-read (Item.formula f ∷ (Item.formula g ∷ l)) q = FormRead.no-form
  one-read (Item.formula f ∷ (Item.closing ∷ l)) q = FormRead.negation q

  two-read : (l : List Item) → k ≤ 68 → (k ≡ 64 → ⊥) → FormRead k (Option.some l) (with_two l)
  two-read [] h q = FormRead.no-form
  two-read (Item.closing ∷ l) h q = FormRead.no-form
  two-read (Item.formula f ∷ []) h q = FormRead.no-form
  two-read (Item.formula f ∷ (Item.closing ∷ l)) h q = FormRead.no-form
  two-read (Item.formula f ∷ (Item.formula g ∷ [])) h q = FormRead.no-form
  two-read (Item.formula f ∷ (Item.formula g ∷ (Item.formula i ∷ l))) h q = FormRead.no-form
  two-read (Item.formula f ∷ (Item.formula g ∷ (Item.closing ∷ l))) h q = FormRead.joined h q

  picked-read : (s t : Bool) (l : List Item) → ltb 68 k ≡ s → eqb k 64 ≡ t
      → FormRead k (Option.some l) (pick s Option.none (pick t (with_one l) (with_two l)))
  picked-read true t l p q = FormRead.no-form
  picked-read false true l p q = one-read l (eqb-true k 64 q)
  picked-read false false l p q = two-read l (ltb-false 68 k p) (eqb-false k 64 q)

  pub form-read : (x : Items) → FormRead k x (with_form k x)
  unfolding with_form
  form-read Option.none = FormRead.no-form
  form-read (Option.some l) = picked-read (ltb 68 k) (eqb k 64) l refl refl

-- Tokens

pub data Read : List Token → Items → Type 0 where
  nothing : {ts : List Token} → Read ts Option.none
  end : Read [] (Option.some [])
  closing : {ts : List Token} {m : List Item} → Read ts (Option.some m)
      → Read (Token.closing ∷ ts) (Option.some (Item.closing ∷ m))
  name : {w : List ℕ} {ts : List Token} {m : List Item} → begins_with_letter w ≡ true → Read ts (Option.some m)
      → Read (Token.word w ∷ ts) (Option.some (Item.formula (Sentence.name w) ∷ m))
  negation : {w : List ℕ} {ts : List Token} {f : Sentence} {m : List Item} → w ≡ get_or form_words 0 []
      → Read ts (Option.some (Item.formula f ∷ (Item.closing ∷ m)))
      → Read (Token.opening ∷ (Token.word w ∷ ts)) (Option.some (Item.formula (Sentence.negation f) ∷ m))
  joined : {k : ℕ} {w : List ℕ} {ts : List Token} {f g : Sentence} {m : List Item} → (65 ≤ k) × (k ≤ 68)
      → w ≡ get_or form_words (k - 64) []
      → Read ts (Option.some (Item.formula f ∷ (Item.formula g ∷ (Item.closing ∷ m))))
      → Read (Token.opening ∷ (Token.word w ∷ ts)) (Option.some (Item.formula (Sentence.joined k f g) ∷ m))

module _ {ts : List Token} where
  closing-read : (x : Items) → Read ts x → Read (Token.closing ∷ ts) (prepend Item.closing x)
  closing-read Option.none r = Read.nothing
  closing-read (Option.some m) r = Read.closing r

  module _ (w : List ℕ) where
    name-read : (b : Bool) (x : Items) → begins_with_letter w ≡ b → Read ts x
        → Read (Token.word w ∷ ts) (pick b (prepend (Item.formula (Sentence.name w)) x) Option.none)
    name-read false x e r = Read.nothing
    name-read true Option.none e r = Read.nothing
    name-read true (Option.some m) e r = Read.name e r

    form_of-read : {x y : Items} → FormRead (node_of w) x y → Read ts x
        → Read (Token.opening ∷ (Token.word w ∷ ts)) y
    form_of-read FormRead.no-form r = Read.nothing
    form_of-read (FormRead.negation q) r =
        let z : node_of w - 64 ≡ 0 = omega arith in
        Read.negation (sym (rw z at (node-word w (omega arith)))) r
    form_of-read (FormRead.joined h q) r =
        let g : 65 ≤ node_of w = omega (arith, node_ge w, q) in
        Read.joined (g, h) (sym (node-word w h)) r

pub items_read : (ts : List Token) → Read ts (items_of ts)
unfolding items_of
items_read [] = Read.end
items_read (Token.closing ∷ ts) = closing-read (items_of ts) (items_read ts)
items_read (Token.word w ∷ ts) = name-read w (begins_with_letter w) (items_of ts) refl (items_read ts)
items_read (Token.opening ∷ []) = Read.nothing
items_read (Token.opening ∷ (Token.opening ∷ ts)) = Read.nothing
items_read (Token.opening ∷ (Token.closing ∷ ts)) = Read.nothing
items_read (Token.opening ∷ (Token.word w ∷ ts)) =
    form_of-read w (form-read (node_of w) (items_of ts)) (items_read ts)

-- Items by the first token

pub items_end : items_of [] ≡ Option.some []
unfolding items_of
items_end = refl

module _ (ts : List Token) where
  pub items_closing : items_of (Token.closing ∷ ts) ≡ prepend Item.closing (items_of ts)
  unfolding items_of
  items_closing = refl

  module _ (w : List ℕ) where
    pub items_name : begins_with_letter w ≡ true
        → items_of (Token.word w ∷ ts) ≡ prepend (Item.formula (Sentence.name w)) (items_of ts)
    unfolding items_of
    items_name h = rw h

    pub items_word : begins_with_letter w ≡ false → items_of (Token.word w ∷ ts) ≡ Option.none
    unfolding items_of
    items_word h = rw h

    pub items_form : items_of (Token.opening ∷ (Token.word w ∷ ts)) ≡ with_form (node_of w) (items_of ts)
    unfolding items_of
    items_form = refl
