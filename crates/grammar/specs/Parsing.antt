-- What parsing a line from a place finds, in the code's places.
--
--   body_in ts            the literals that the tokens ts are, up to the line's closing bracket, or that they are none
--   LiteralFound l at r   r is the literal at place at of the line l, or the body's end, or neither
--   BodyFound l at k r    r is the number of the literals from place at to the line's end, as many as a line of kind k
--                         takes, or that there are none
--   NumeralFound l at r   r is the number at place at of the flat line l, with the place behind it, or none
--   FormIs l f x          f is the form of the line x, with the places of its parts in l
--   FormFound l r         r is the form of the line l, with the places of its parts, or none
use Rattle.std.specs.Prelude.{◌≡◌, Bool, true, false, List, [], ◌∷◌, ℕ, ◌≤◌, ◌<◌, length, drop}
use Rattle.std.specs.Prelude as code
use Rattle.std.proofs.Math.Option.{Option}
use Rattle.std.proofs.Math.Seq.{slice}
use Rattle.text.specs.Tokens.{Token, tokens}
use Rattle.text.specs.Numbers.{number_of, is_number}
use Rattle.formulas.specs.Parsing.{Items}
use Rattle.formulas.specs.Sentence.{depth_of}
use Rattle.formulas.specs.Sentence.{Sentence}
use Rattle.formulas.specs.Items.{prepend, Item, items_of}
use Rattle.grammar.specs.declared.literal.Lit.{Lit}
use Rattle.grammar.specs.declared.literal.Lit.TheVariants as lit
use Rattle.grammar.specs.declared.numeral.Numeral.{Numeral}
use Rattle.grammar.specs.declared.line.Form.{Form}
use Rattle.grammar.specs.declared.line.Form.TheVariants.{Skipped, Clause, Constraint, Seen, Query, Cost}
use Rattle.grammar.specs.declared.line.Form.TheVariants.{Atom, Edition}
use Rattle.grammar.specs.declared.brings.Brings.{Brings}
use Rattle.grammar.specs.Line.{Line, Literal, takes}
use Rattle.grammar.specs.Bringing.{brings}
use Rattle.grammar.specs.LineOf.{literals_of, is_end, flat_words, behind_word, line_of}

abbrev pub ends_items : Items → Bool
ends_items Option.none = false
ends_items (Option.some l) = is_end l

abbrev pub literals_among : Items → Option (List Literal)
literals_among Option.none = Option.none
literals_among (Option.some l) = literals_of l

abbrev pub body_in : List Token → Option (List Literal)
body_in ts = literals_among (items_of ts)

-- the literals that begin with what r found in the line l
abbrev pub first_literal : List ℕ → code.Option Lit → Option (List Literal)
first_literal l code.None = Option.none
first_literal l (code.Some lit.BodyEnd) = Option.some []
first_literal l (code.Some (lit.Literal b a e next)) =
    prepend (Literal.literal b (slice a e l)) (body_in (tokens (drop next l)))

-- what was found lies in the line, behind place at
abbrev pub LiteralInside : List ℕ → ℕ → code.Option Lit → Type 0
LiteralInside l at code.None = Unit {0}
LiteralInside l at (code.Some lit.BodyEnd) = Unit {0}
LiteralInside l at (code.Some (lit.Literal b a e next)) = (at < next) × (next ≤ length l) × (a < e) × (e ≤ length l)

-- the tokens ts begin with the literal that r found behind place at
pub record LiteralIn (ts : List Token) (l : List ℕ) (at : ℕ) (r : code.Option Lit) : Type 0 where
  pub literals_are : body_in ts ≡ first_literal l r
  pub inside : LiteralInside l at r

abbrev pub LiteralFound : List ℕ → ℕ → code.Option Lit → Type 0
LiteralFound l at r = LiteralIn (tokens (drop at l)) l at r

-- the same of a literal whose opening bracket stands before place at
abbrev pub NegationFound : List ℕ → ℕ → code.Option Lit → Type 0
NegationFound l at r = LiteralIn (Token.opening ∷ tokens (drop at l)) l at r

-- there are literals, as many as a line of kind k takes
abbrev pub fits_body : ℕ → Option (List Literal) → Bool
fits_body k Option.none = false
fits_body k (Option.some ls) = takes k (length ls)

-- there are n literals, as many as a line of kind k takes
pub record CountedBody (k n : ℕ) (x : Option (List Literal)) : Type 0 where
  pub literals : List Literal
  pub literals_are : x ≡ Option.some literals
  pub fits : takes k (length literals) ≡ true
  pub count-is : n ≡ length literals

abbrev pub BodyIs : ℕ → Option (List Literal) → code.Option ℕ → Type 0
BodyIs k x code.None = fits_body k x ≡ false
BodyIs k x (code.Some n) = CountedBody k n x

pub record BodyFound (l : List ℕ) (at k : ℕ) (r : code.Option ℕ) : Type 0 where
  pub body_is : BodyIs k (body_in (tokens (drop at l))) r

-- what flat words begin with is no number
abbrev pub Unnumbered : Option (List (List ℕ)) → Type 0
Unnumbered Option.none = Unit {0}
Unnumbered (Option.some []) = Unit {0}
Unnumbered (Option.some (w ∷ ws)) = is_number w ≡ false

-- the number n with the rest behind place next
pub record NumeralAt (l : List ℕ) (at n next : ℕ) : Type 0 where
  pub digits : List ℕ
  pub words_are : flat_words (tokens (drop at l)) ≡ prepend digits (flat_words (tokens (drop next l)))
  pub is-number : is_number digits ≡ true
  pub value-is : n ≡ number_of digits

abbrev pub NumeralIs : List ℕ → ℕ → code.Option Numeral → Type 0
NumeralIs l at code.None = Unnumbered (flat_words (tokens (drop at l)))
NumeralIs l at (code.Some n) = NumeralAt l at n.value n.next

pub record NumeralFound (l : List ℕ) (at : ℕ) (r : code.Option Numeral) : Type 0 where
  pub numeral_is : NumeralIs l at r

-- the literals from place at on, n of them, make the line x
pub record BodyMakes (l : List ℕ) (at n : ℕ) (make : List Literal → Line) (x : Line) : Type 0 where
  pub literals : List Literal
  pub literals_are : body_in (tokens (drop at l)) ≡ Option.some literals
  pub count-is : n ≡ length literals
  pub line-is : x ≡ make literals

-- the one literal from place at on makes the line x
pub record SeenMakes (l : List ℕ) (at : ℕ) (x : Line) : Type 0 where
  pub reading : Literal
  pub literals_are : body_in (tokens (drop at l)) ≡ Option.some (reading ∷ [])
  pub line-is : x ≡ Line.seen reading

-- the formula at place at, of depth d, makes the line x
pub record QueryMakes (l : List ℕ) (at d : ℕ) (x : Line) : Type 0 where
  pub sentence : Sentence
  pub items_are : items_of (tokens (drop at l)) ≡ Option.some (Item.formula sentence ∷ (Item.closing ∷ []))
  pub depth_is : d ≡ depth_of sentence
  pub line-is : x ≡ Line.query sentence

-- the name w with the price p and the supplement s makes the line x
pub record CostMakes (w : List ℕ) (p s : ℕ) (x : Line) : Type 0 where
  pub price : List ℕ
  pub supplement : List ℕ
  pub price-is : p ≡ number_of price
  pub supplement-is : s ≡ number_of supplement
  pub line-is : x ≡ Line.cost w price supplement

-- a and e are the ends of a part of the line
abbrev pub Part : List ℕ → ℕ → ℕ → Type 0
Part l a e = (a < e) × (e ≤ length l)

abbrev pub FormIs : List ℕ → Form → Line → Type 0
FormIs l Skipped x = x ≡ Line.skipped
FormIs l (Clause k a e n) x = (k ≤ 2) × Part l a e × BodyMakes l e n (Line.clause k (slice a e l)) x
FormIs l (Constraint k at n) x = (k ≤ 1) × BodyMakes l at n (Line.constraint k) x
FormIs l (Seen at) x = SeenMakes l at x
FormIs l (Query at d) x = QueryMakes l at d x
FormIs l (Cost a e p s) x = Part l a e × CostMakes (slice a e l) p s x
FormIs l (Atom a e) x = Part l a e × (x ≡ Line.atom (slice a e l))
FormIs l (Edition n) x = (1 ≤ n) × (n ≤ 2) × (x ≡ Line.edition n)

abbrev pub FormOrNone : List ℕ → code.Option Form → Line → Type 0
FormOrNone l code.None x = x ≡ Line.no_form
FormOrNone l (code.Some f) x = FormIs l f x

-- the line of a kind whose tokens behind its word begin at place at
pub record FormAfter (l : List ℕ) (at kind : ℕ) (r : code.Option Form) : Type 0 where
  pub form-is : FormOrNone l r (behind_word kind (tokens (drop at l)))

-- a closing bracket is all that is left of the line from place at on
unfoldable pub ends_line : List ℕ → ℕ → Bool
ends_line l at = ends_items (items_of (tokens (drop at l)))

pub record FormFound (l : List ℕ) (r : code.Option Form) : Type 0 where
  pub form-is : FormOrNone l r (line_of (tokens l))

-- r is what a line of the form x, or of none, brings
abbrev pub Brought : code.Option Form → Brings → Type 0
Brought x r = (l : List ℕ) (y : Line) → FormOrNone l x y → r ≡ brings y
