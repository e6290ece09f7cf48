-- The names of tokens, by the first of them. Assumes nothing.
use mathlib.Core.Path.{◌≡◌, refl}
use mathlib.Core.Bool.{true, false}
use mathlib.Core.List.{List, [], ◌∷◌}
use Prim.Native.Nat.{ℕ}
use Rattle.text.specs.Tokens.{Token}
use Rattle.text.specs.Words.{begins_with_letter, names_from, names_in}

pub names-end : names_in [] ≡ []
unfolding names_from
names-end = refl

module _ (ts : List Token) where
  pub names-closing : names_in (Token.closing ∷ ts) ≡ names_in ts
  unfolding names_from
  names-closing = refl

  module _ (w : List ℕ) where
    pub names-name : begins_with_letter w ≡ true → names_in (Token.word w ∷ ts) ≡ w ∷ names_in ts
    unfolding names_from
    names-name h = rw h

    pub names-other : begins_with_letter w ≡ false → names_in (Token.word w ∷ ts) ≡ names_in ts
    unfolding names_from
    names-other h = rw h

    pub names-form : names_in (Token.opening ∷ (Token.word w ∷ ts)) ≡ names_in ts
    unfolding names_from
    names-form = refl
