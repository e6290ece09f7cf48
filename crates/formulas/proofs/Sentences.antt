-- Formulas: how a formula's depth, its nodes and its tokens bound each other, and its names among its tokens.
-- Assumes nothing.
use mathlib.Core.Path.{◌≡◌, ap, ◌∙◌}
use mathlib.Core.Bool.{true}
use mathlib.Core.List.{List, ◌∷◌, ◌++◌, append_assoc}
use Prim.Native.Nat.{ℕ, ◌+◌, ◌*◌, ◌≤◌}
use native.Mathlib.Omega.{arith}
use Rattle.text.specs.Tokens.{Token}
use Rattle.text.specs.Words.{names_in}
use Rattle.text.proofs.NameLaws.{names-closing, names-name, names-form}
use Rattle.formulas.specs.Sentence.{Sentence, tokens_of, sentence_names, depth_of, is_sentence}
use Rattle.formulas.specs.Parsing.{size_of}
use Rattle.formulas.proofs.Spelling.{joined-sentence}

pub depth-le-size : (f : Sentence) → depth_of f ≤ size_of f
unfolding depth_of size_of
depth-le-size (Sentence.name w) = omega arith
depth-le-size (Sentence.negation f) = omega (arith, depth-le-size f)
depth-le-size (Sentence.joined k f g) = omega (arith, depth-le-size f, depth-le-size g)

-- the number of tokens that spell f
unfoldable pub token_count : Sentence → ℕ
token_count (Sentence.name w) = 1
token_count (Sentence.negation f) = 3 + token_count f
token_count (Sentence.joined k f g) = 3 + token_count f + token_count g

pub size-le-tokens : (f : Sentence) → 2 * size_of f ≤ token_count f + 1
unfolding size_of token_count
size-le-tokens (Sentence.name w) = omega arith
size-le-tokens (Sentence.negation f) = omega (arith, size-le-tokens f)
size-le-tokens (Sentence.joined k f g) = omega (arith, size-le-tokens f, size-le-tokens g)

pub sentence-names : (f : Sentence) (ts : List Token) → is_sentence f ≡ true
    → names_in (tokens_of f ++ ts) ≡ sentence_names f ++ names_in ts
unfolding tokens_of sentence_names is_sentence
sentence-names (Sentence.name w) ts h = names-name ts w h
sentence-names (Sentence.negation f) ts h =
    rw append_assoc (names-form _ _ ∙ sentence-names f _ h ∙ ap (λ ns. sentence_names f ++ ns) (names-closing ts))
sentence-names (Sentence.joined k f g) ts h =
    let j = joined-sentence k f g h in
    let d = sentence-names g (Token.closing ∷ ts) j.second in
    let e = d ∙ ap (λ ns. sentence_names g ++ ns) (names-closing ts) in
    rw (append_assoc (tokens_of f ++ tokens_of g), append_assoc (tokens_of f), append_assoc (sentence_names f))
    (names-form _ _ ∙ sentence-names f _ j.first ∙ ap (λ ns. sentence_names f ++ ns) e)
