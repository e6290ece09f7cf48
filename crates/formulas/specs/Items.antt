-- Formulas read from tokens. That this reads exactly what formulas spell is a claim of grammar (LineExact).
--
--   Item            what tokens are read as: a formula, or the closing bracket of a form around it
--   with_form k x   the form with node k in front of the items x
--   items_of ts     the formulas and closing brackets that the tokens ts are, one after the other, or none
use Rattle.std.specs.Prelude.{List, [], ◌∷◌, ℕ, eqb, ltb}
use Rattle.std.proofs.Math.Option.{Option}
use Rattle.words.specs.Choice.{pick}
use Rattle.text.specs.Tokens.{Token}
use Rattle.formulas.specs.Keyword.{node_of}
use Rattle.text.specs.Words.{begins_with_letter}
use Rattle.formulas.specs.Sentence.{Sentence}

-- what tokens are read as, one after the other: formulas, and the closing brackets of forms around them
pub data Item : Type 0 where
  formula : Sentence → Item
  closing : Item

-- x in front of a list, where there is one
abbrev pub prepend : {A : Type 0} → A → Option (List A) → Option (List A)
prepend x Option.none = Option.none
prepend x (Option.some l) = Option.some (x ∷ l)

-- the form f, where the next item is its closing bracket
abbrev pub closed : Sentence → List Item → Option (List Item)
closed f [] = Option.none
closed f (Item.formula g ∷ l) = Option.none
closed f (Item.closing ∷ l) = Option.some (Item.formula f ∷ l)

-- what make makes of the formula that items begin with and of the items behind it, otherwise other
abbrev pub with_first : {A : Type 0} → A → (Sentence → List Item → A) → List Item → A
with_first other make [] = other
with_first other make (Item.closing ∷ l) = other
with_first other make (Item.formula f ∷ l) = make f l

-- the form with node k, over 68 for none, where the next items are its one or two operands and its closing bracket
unfoldable pub with_form : ℕ → Option (List Item) → Option (List Item)
with_form k Option.none = Option.none
with_form k (Option.some l) =
    let one = with_first Option.none (λ f m. closed (Sentence.negation f) m) l in
    let two = with_first Option.none (λ f m. with_first Option.none (λ g n. closed (Sentence.joined k f g) n) m) l in
    pick (ltb 68 k) Option.none (pick (eqb k 64) one two)

unfoldable pub items_of : List Token → Option (List Item)
items_of [] = Option.some []
items_of (Token.closing ∷ ts) = prepend Item.closing (items_of ts)
items_of (Token.word w ∷ ts) =
    pick (begins_with_letter w) (prepend (Item.formula (Sentence.name w)) (items_of ts)) Option.none
items_of (Token.opening ∷ []) = Option.none
items_of (Token.opening ∷ (Token.opening ∷ ts)) = Option.none
items_of (Token.opening ∷ (Token.closing ∷ ts)) = Option.none
items_of (Token.opening ∷ (Token.word w ∷ ts)) = with_form (node_of w) (items_of ts)
