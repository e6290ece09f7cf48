-- The forms of a line, and how they are spelled.
-- From: document 01, "The file" ("Every other line is one form of nested brackets: `(true N)`, `(false N)`,
-- `(if N L..)`, `(never L..)`, `(seen L)`, `(query F)`, with at least one L"; "L is N or `(not N)`"); document 02, [5]
-- (`(avoid L..)`), [7] (`(cost N P S)`), [8] (`(atom N)`, "a new form that only names an atom"), [10] (`(edition 2)`,
-- `(edition 1)`).
--
--   Literal         a name or its negation: L
--   Line            what a line is: skipped, one of the ten forms, or no form
--   line_tokens x   the tokens of the line x; a skipped one has none
--   is_edition e    e is the number of an edition
--   is_line x       x is a skipped line or one of the forms, with names where names stand and literals where they must
--   line_names x    the names of the line x in order
use Rattle.std.specs.Prelude.{Bool, true, false, ◌&&◌, ◌||◌, List, [], ◌∷◌, ◌++◌, ℕ, ◌+◌, eqb, ltb, length, get_or}
use Rattle.words.specs.Choice.{pick}
use Rattle.text.specs.Bytes.{bytes}
use Rattle.text.specs.Tokens.{Token}
use Rattle.text.specs.Words.{begins_with_letter}
use Rattle.text.specs.Numbers.{is_number}
use Rattle.formulas.specs.Sentence.{Sentence, form_tokens, tokens_of, is_sentence, sentence_names}

-- the literal of the name w, negated where the test holds
pub data Literal : Type 0 where
  literal : Bool → List ℕ → Literal

-- a clause by its kind (0 fact, 1 assumption, 2 rule), its head and its literals; a constraint by its kind (0 never,
-- 1 avoid) and its literals; a cost by the words of its name, its price and its supplement; an atom line by the word of
-- its name; an edition line by its number
pub data Line : Type 0 where
  skipped : Line
  no_form : Line
  clause : ℕ → List ℕ → List Literal → Line
  constraint : ℕ → List Literal → Line
  seen : Literal → Line
  query : Sentence → Line
  cost : List ℕ → List ℕ → List ℕ → Line
  atom : List ℕ → Line
  edition : ℕ → Line

-- the words of the kinds of clauses, of the kinds of constraints, of readings, of queries, of costs, of atom lines
-- and of edition lines
abbrev pub line_words : List (List ℕ)
line_words =
    bytes "true" ∷ bytes "false" ∷ bytes "if"
    ∷ bytes "never" ∷ bytes "avoid"
    ∷ bytes "seen" ∷ bytes "query" ∷ bytes "cost" ∷ bytes "atom" ∷ bytes "edition" ∷ []

-- the formula that a literal is
abbrev pub of_literal : Literal → Sentence
of_literal (Literal.literal false w) = Sentence.name w
of_literal (Literal.literal true w) = Sentence.negation (Sentence.name w)

unfoldable pub body_tokens : List Literal → List Token
body_tokens [] = []
body_tokens (x ∷ l) = tokens_of (of_literal x) ++ body_tokens l

unfoldable pub line_tokens : Line → List Token
line_tokens Line.skipped = []
line_tokens Line.no_form = []
line_tokens (Line.clause k w l) = form_tokens (get_or line_words k []) (Token.word w ∷ body_tokens l)
line_tokens (Line.constraint k l) = form_tokens (get_or line_words (3 + k) []) (body_tokens l)
line_tokens (Line.seen x) = form_tokens (get_or line_words 5 []) (tokens_of (of_literal x))
line_tokens (Line.query f) = form_tokens (get_or line_words 6 []) (tokens_of f)
line_tokens (Line.cost w p s) =
    form_tokens (get_or line_words 7 []) (Token.word w ∷ (Token.word p ∷ (Token.word s ∷ [])))
line_tokens (Line.atom w) = form_tokens (get_or line_words 8 []) (Token.word w ∷ [])
line_tokens (Line.edition e) = form_tokens (get_or line_words 9 []) (Token.word ((48 + e) ∷ []) ∷ [])

-- each literal is one of a name
unfoldable pub are_named : List Literal → Bool
are_named [] = true
are_named (x ∷ l) = is_sentence (of_literal x) && are_named l

-- a line of kind k takes n literals: a fact and an assumption none, a reading one, a rule or a constraint some
abbrev pub takes : ℕ → ℕ → Bool
takes k n = pick (ltb k 2) (eqb n 0) (pick (eqb k 5) (eqb n 1) (ltb 0 n))

-- a name and two numbers
abbrev pub is_cost : List ℕ → List ℕ → List ℕ → Bool
is_cost w p s = begins_with_letter w && is_number p && is_number s

abbrev pub is_edition : ℕ → Bool
is_edition e = eqb e 1 || eqb e 2

unfoldable pub is_line : Line → Bool
is_line Line.skipped = true
is_line Line.no_form = false
is_line (Line.clause k w l) = ltb k 3 && begins_with_letter w && are_named l && takes k (length l)
is_line (Line.constraint k l) = ltb k 2 && are_named l && takes (3 + k) (length l)
is_line (Line.seen x) = is_sentence (of_literal x)
is_line (Line.query f) = is_sentence f
is_line (Line.cost w p s) = is_cost w p s
is_line (Line.atom w) = begins_with_letter w
is_line (Line.edition e) = is_edition e

abbrev pub body_names : List Literal → List (List ℕ)
body_names [] = []
body_names (Literal.literal b w ∷ l) = w ∷ body_names l

abbrev pub line_names : Line → List (List ℕ)
line_names Line.skipped = []
line_names Line.no_form = []
line_names (Line.clause k w l) = w ∷ body_names l
line_names (Line.constraint k l) = body_names l
line_names (Line.seen x) = body_names (x ∷ [])
line_names (Line.query f) = sentence_names f
line_names (Line.cost w p s) = w ∷ []
line_names (Line.atom w) = w ∷ []
line_names (Line.edition e) = []
