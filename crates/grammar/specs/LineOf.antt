-- The form of a line, read from its tokens. That this reads exactly the lines that forms spell is a claim (LineExact).
--
--   literals_of l   the literals that the items l are, up to the line's closing bracket, or that they are none
--   flat_words ts   the words that the tokens ts are, up to the line's closing bracket, or that they are none
--   kind_of w       the kind of the line with the word w: 0 true, 1 false, 2 if, 3 never, 4 avoid, 5 seen, 6 query, 7
--                   cost, 8 atom, 9 edition; otherwise 10
--   behind_word k ts the line of kind k with the tokens ts behind its word
--   line_of ts     the line with the tokens ts
--   is_no_form x   the line x is no form
use Rattle.std.specs.Prelude.{Bool, true, false, List, [], ◌∷◌, ℕ, ◌-◌, eqb, ltb, length}
use Rattle.std.proofs.Math.Option.{Option}
use Rattle.words.specs.Choice.{pick}
use Rattle.text.specs.Tokens.{Token}
use Rattle.text.specs.Words.{begins_with_letter, place_of}
use Rattle.formulas.specs.Sentence.{Sentence}
use Rattle.formulas.specs.Items.{prepend, Item, with_first, items_of}
use Rattle.grammar.specs.Line.{Literal, Line, line_words, takes, is_cost, is_edition}

-- a formula that is a literal, in front of literals
abbrev pub with_sentence : Sentence → Option (List Literal) → Option (List Literal)
with_sentence (Sentence.name w) ls = prepend (Literal.literal false w) ls
with_sentence (Sentence.negation (Sentence.name w)) ls = prepend (Literal.literal true w) ls
with_sentence (Sentence.negation (Sentence.negation f)) ls = Option.none
with_sentence (Sentence.negation (Sentence.joined k f g)) ls = Option.none
with_sentence (Sentence.joined k f g) ls = Option.none

-- the items of a body: literals, and the line's closing bracket
unfoldable pub literals_of : List Item → Option (List Literal)
literals_of [] = Option.none
literals_of (Item.closing ∷ []) = Option.some []
literals_of (Item.closing ∷ (i ∷ l)) = Option.none
literals_of (Item.formula f ∷ l) = with_sentence f (literals_of l)

-- what make makes of literals, as many as a line of kind k takes
abbrev pub with_body : ℕ → (List Literal → Line) → Option (List Literal) → Line
with_body k make Option.none = Line.no_form
with_body k make (Option.some l) = pick (takes k (length l)) (make l) Line.no_form

-- the reading of one literal
abbrev pub seen_of : List Literal → Line
seen_of [] = Line.no_form
seen_of (x ∷ []) = Line.seen x
seen_of (x ∷ (y ∷ l)) = Line.no_form

-- the line's closing bracket is all that is left
abbrev pub is_end : List Item → Bool
is_end [] = false
is_end (Item.formula f ∷ l) = false
is_end (Item.closing ∷ []) = true
is_end (Item.closing ∷ (i ∷ l)) = false

-- a line whose first item is a name, with what the rest makes of it
abbrev pub named : (List ℕ → Line) → Sentence → Line
named line (Sentence.name w) = line w
named line (Sentence.negation f) = Line.no_form
named line (Sentence.joined k f g) = Line.no_form

-- the clause of kind k with these items: its head, then literals
abbrev pub clause_of : ℕ → List Item → Line
clause_of k l = with_first Line.no_form (λ f m. named (λ w. with_body k (Line.clause k w) (literals_of m)) f) l

abbrev pub query_of : List Item → Line
query_of l = with_first Line.no_form (λ f m. pick (is_end m) (Line.query f) Line.no_form) l

-- the line of kind k with these literals alone: a constraint or a reading
abbrev pub body_line : ℕ → List Literal → Line
body_line k l = pick (ltb k 5) (Line.constraint (k - 3) l) (seen_of l)

-- the line of kind k with these items
abbrev pub of_kind : ℕ → List Item → Line
of_kind k l = pick (ltb k 3) (clause_of k l) (pick (eqb k 6) (query_of l) (with_body k (body_line k) (literals_of l)))

abbrev pub with_items : ℕ → Option (List Item) → Line
with_items k Option.none = Line.no_form
with_items k (Option.some l) = of_kind k l

-- the tokens of a line without brackets of its own: words, and the line's closing bracket
unfoldable pub flat_words : List Token → Option (List (List ℕ))
flat_words [] = Option.none
flat_words (Token.opening ∷ ts) = Option.none
flat_words (Token.closing ∷ []) = Option.some []
flat_words (Token.closing ∷ (t ∷ ts)) = Option.none
flat_words (Token.word w ∷ ts) = prepend w (flat_words ts)

-- the cost of these words: a name, a price and a supplement
abbrev pub cost_line : List (List ℕ) → Line
cost_line [] = Line.no_form
cost_line (w ∷ []) = Line.no_form
cost_line (w ∷ (p ∷ [])) = Line.no_form
cost_line (w ∷ (p ∷ (s ∷ []))) = pick (is_cost w p s) (Line.cost w p s) Line.no_form
cost_line (w ∷ (p ∷ (s ∷ (v ∷ ws)))) = Line.no_form

-- the atom line of these words: a name
abbrev pub atom_line : List (List ℕ) → Line
atom_line [] = Line.no_form
atom_line (w ∷ []) = pick (begins_with_letter w) (Line.atom w) Line.no_form
atom_line (w ∷ (v ∷ ws)) = Line.no_form

-- the edition line of this word: one digit
abbrev pub digit_line : List ℕ → Line
digit_line [] = Line.no_form
digit_line (d ∷ []) = pick (is_edition (d - 48)) (Line.edition (d - 48)) Line.no_form
digit_line (d ∷ (c ∷ w)) = Line.no_form

-- the edition line of these words: one
abbrev pub edition_line : List (List ℕ) → Line
edition_line [] = Line.no_form
edition_line (w ∷ []) = digit_line w
edition_line (w ∷ (v ∷ ws)) = Line.no_form

-- the flat line of kind k with these words
abbrev pub flat_line : ℕ → List (List ℕ) → Line
flat_line k ws =
    pick (eqb k 7) (cost_line ws) (pick (eqb k 8) (atom_line ws) (pick (eqb k 9) (edition_line ws) Line.no_form))

abbrev pub with_words : ℕ → Option (List (List ℕ)) → Line
with_words k Option.none = Line.no_form
with_words k (Option.some ws) = flat_line k ws

abbrev pub behind_word : ℕ → List Token → Line
behind_word k ts = pick (ltb k 7) (with_items k (items_of ts)) (with_words k (flat_words ts))

abbrev pub kind_of : List ℕ → ℕ
kind_of w = place_of line_words w

unfoldable pub line_of : List Token → Line
line_of [] = Line.skipped
line_of (Token.closing ∷ ts) = Line.no_form
line_of (Token.word w ∷ ts) = Line.no_form
line_of (Token.opening ∷ []) = Line.no_form
line_of (Token.opening ∷ (Token.opening ∷ ts)) = Line.no_form
line_of (Token.opening ∷ (Token.closing ∷ ts)) = Line.no_form
line_of (Token.opening ∷ (Token.word w ∷ ts)) = behind_word (kind_of w) ts

abbrev pub is_no_form : Line → Bool
is_no_form Line.skipped = false
is_no_form Line.no_form = true
is_no_form (Line.clause k w l) = false
is_no_form (Line.constraint k l) = false
is_no_form (Line.seen x) = false
is_no_form (Line.query f) = false
is_no_form (Line.cost w p s) = false
is_no_form (Line.atom w) = false
is_no_form (Line.edition e) = false
