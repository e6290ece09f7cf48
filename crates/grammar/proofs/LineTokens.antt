-- The tokens of a line of each kind, and of literals one list behind another; no line is a comment. Assumes nothing.
use mathlib.Core.Path.{◌≡◌, refl, sym, ap, ◌∙◌}
use mathlib.Core.Bool.{false}
use mathlib.Core.List.{List, [], ◌∷◌, ◌++◌, append_assoc}
use Prim.Native.Nat.{ℕ, ◌+◌}
use lib.ListN.{get_or}
use Rattle.text.specs.Bytes.{bytes}
use Rattle.text.specs.Lines.{is_comment}
use Rattle.text.specs.Spelled.{spelled}
use Rattle.text.specs.Tokens.{Token}
use Rattle.text.proofs.Spelled.{nothing_no_comment, spelled_no_comment}
use Rattle.formulas.specs.Sentence.{Sentence, form_tokens, tokens_of}
use Rattle.grammar.specs.Line.{Line, Literal, line_words, of_literal, body_tokens, line_tokens}

-- ---- literals
pub body-none : body_tokens [] ≡ []
unfolding body_tokens
body-none = refl

pub body-first : (x : Literal) (l : List Literal) → body_tokens (x ∷ l) ≡ tokens_of (of_literal x) ++ body_tokens l
unfolding body_tokens
body-first x l = refl

pub body-append : (l m : List Literal) → body_tokens (l ++ m) ≡ body_tokens l ++ body_tokens m
unfolding body_tokens
body-append [] m = refl
body-append (x ∷ l) m =
    ap (λ ts. tokens_of (of_literal x) ++ ts) (body-append l m) ∙ sym (append_assoc (tokens_of (of_literal x)) _ _)

-- ---- lines
module _ (w : List ℕ) where
  pub atom-tokens : line_tokens (Line.atom w) ≡ form_tokens (bytes "atom") (Token.word w ∷ [])
  unfolding line_tokens
  atom-tokens = refl

  pub clause-tokens : (k : ℕ) (l : List Literal)
      → line_tokens (Line.clause k w l) ≡ form_tokens (get_or line_words k []) (Token.word w ∷ body_tokens l)
  unfolding line_tokens
  clause-tokens k l = refl

  pub cost-tokens : (p s : List ℕ)
      → line_tokens (Line.cost w p s)
      ≡ form_tokens (bytes "cost") (Token.word w ∷ (Token.word p ∷ (Token.word s ∷ [])))
  unfolding line_tokens
  cost-tokens p s = refl

pub constraint-tokens : (k : ℕ) (l : List Literal)
    → line_tokens (Line.constraint k l) ≡ form_tokens (get_or line_words (3 + k) []) (body_tokens l)
unfolding line_tokens
constraint-tokens k l = refl

pub seen-tokens : (x : Literal) → line_tokens (Line.seen x) ≡ form_tokens (bytes "seen") (tokens_of (of_literal x))
unfolding line_tokens
seen-tokens x = refl

pub query-tokens : (f : Sentence) → line_tokens (Line.query f) ≡ form_tokens (bytes "query") (tokens_of f)
unfolding line_tokens
query-tokens f = refl

pub edition-tokens : (e : ℕ)
    → line_tokens (Line.edition e) ≡ form_tokens (bytes "edition") (Token.word ((48 + e) ∷ []) ∷ [])
unfolding line_tokens
edition-tokens e = refl

-- a line's text begins with a bracket, if with anything
pub line_no_comment : (x : Line) → is_comment (spelled (line_tokens x)) ≡ false
unfolding line_tokens
line_no_comment Line.skipped = nothing_no_comment
line_no_comment Line.no_form = nothing_no_comment
line_no_comment (Line.clause k w l) = spelled_no_comment _
line_no_comment (Line.constraint k l) = spelled_no_comment _
line_no_comment (Line.seen x) = spelled_no_comment _
line_no_comment (Line.query f) = spelled_no_comment _
line_no_comment (Line.cost w p s) = spelled_no_comment _
line_no_comment (Line.atom w) = spelled_no_comment _
line_no_comment (Line.edition e) = spelled_no_comment _
