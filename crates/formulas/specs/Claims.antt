-- What is claimed of the words of forms. Proved in proofs/Theorems.antt.
-- From: document 01, "The file" ("A word after `(` is a form's word; elsewhere a name, even if spelled alike").
use Rattle.std.specs.Prelude.{◌≡◌, List, [], ◌∷◌, map, ℕ}
use Rattle.std.proofs.Math.Option.{Option}
use Rattle.text.specs.Tokens.{Token}
use Rattle.formulas.specs.Sentence.{Sentence, form_words}
use Rattle.formulas.specs.Items.{Item, items_of}

-- a word that no bracket opens is read as a name, even if it is spelled as a form's word
abbrev pub SpelledAlike : Type 0
SpelledAlike =
    map (λ (w : List ℕ). items_of (Token.word w ∷ [])) form_words
    ≡ map (λ (w : List ℕ). Option.some (Item.formula (Sentence.name w) ∷ [])) form_words
