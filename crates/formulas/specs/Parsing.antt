-- What parsing a formula from a place of a line finds, in the code's places.
--
--   begins_formula x   the items begin with a formula
--   size_of f          the number of nodes of f: its names and its forms
--   HeadAt l at r      r is what the formula at place at of the line l begins with, or none
--   Parsed l at r      r is the formula at place at of the line l, with its depth and the place behind it, or none
--   Closed l at d r    r is a form of depth d whose closing bracket is at or behind place at, or none
use Rattle.std.specs.Prelude.{◌≡◌, Bool, true, false, List, [], ◌∷◌, ℕ, ◌+◌, ◌*◌, ◌≤◌, ◌<◌, length, drop}
use Rattle.std.specs.Prelude as code
use Rattle.std.proofs.Math.Option.{Option}
use Rattle.std.proofs.Math.Seq.{slice}
use Rattle.text.specs.Tokens.{tokens}
use Rattle.formulas.specs.Sentence.{Sentence, depth_of}
use Rattle.formulas.specs.Items.{prepend, Item, closed, with_form, items_of}
use Rattle.formulas.specs.declared.formula.Head.{Head}
use Rattle.formulas.specs.declared.formula.Head.TheVariants.{Name, Form}
use Rattle.formulas.specs.declared.formula.Parse.{Parse}

-- what tokens are read as, or that they are none
abbrev pub Items : Type 0
Items = Option (List Item)

abbrev pub begins_formula : Items → Bool
begins_formula Option.none = false
begins_formula (Option.some []) = false
begins_formula (Option.some (Item.closing ∷ l)) = false
begins_formula (Option.some (Item.formula f ∷ l)) = true

-- the name from place a to place e, with the rest behind it
pub record NameAt (l : List ℕ) (at a e : ℕ) : Type 0 where
  pub items_are : items_of (tokens (drop at l))
      ≡ prepend (Item.formula (Sentence.name (slice a e l))) (items_of (tokens (drop e l)))
  pub onward : at ≤ a
  pub filled : a < e
  pub within : e ≤ length l

-- the form with node k, with its operands behind place e
pub record FormAt (l : List ℕ) (at k e : ℕ) : Type 0 where
  pub items_are : items_of (tokens (drop at l)) ≡ with_form k (items_of (tokens (drop e l)))
  pub low : 64 ≤ k
  pub high : k ≤ 68
  pub onward : at + 2 ≤ e
  pub within : e ≤ length l

abbrev pub HeadAt : List ℕ → ℕ → code.Option Head → Type 0
HeadAt l at code.None = begins_formula (items_of (tokens (drop at l))) ≡ false
HeadAt l at (code.Some (Name a e)) = NameAt l at a e
HeadAt l at (code.Some (Form k e)) = FormAt l at k e

unfoldable pub size_of : Sentence → ℕ
size_of (Sentence.name w) = 1
size_of (Sentence.negation f) = 1 + size_of f
size_of (Sentence.joined k f g) = 1 + size_of f + size_of g

-- the formula f with the rest behind place next, and room for its nodes, two bytes for each but the last
pub record FormulaAt (l : List ℕ) (at next d : ℕ) : Type 0 where
  pub sentence : Sentence
  pub items_are : items_of (tokens (drop at l)) ≡ prepend (Item.formula sentence) (items_of (tokens (drop next l)))
  pub depth_is : d ≡ depth_of sentence
  pub onward : at < next
  pub within : next ≤ length l
  pub room : at + 2 * size_of sentence ≤ next + 1

abbrev pub Parsed : List ℕ → ℕ → code.Option Parse → Type 0
Parsed l at code.None = begins_formula (items_of (tokens (drop at l))) ≡ false
Parsed l at (code.Some p) = FormulaAt l at p.next p.depth

-- the form f, where the items begin with its closing bracket
abbrev pub closed_among : Sentence → Items → Items
closed_among f Option.none = Option.none
closed_among f (Option.some m) = closed f m

-- a closing bracket stands at or behind place at, and the rest behind place next
pub record ClosingAt (l : List ℕ) (at next : ℕ) : Type 0 where
  pub items_are : (f : Sentence)
      → closed_among f (items_of (tokens (drop at l))) ≡ prepend (Item.formula f) (items_of (tokens (drop next l)))
  pub onward : at < next
  pub within : next ≤ length l

abbrev pub Closed : List ℕ → ℕ → ℕ → code.Option Parse → Type 0
Closed l at d code.None = (f : Sentence) → closed_among f (items_of (tokens (drop at l))) ≡ Option.none
Closed l at d (code.Some p) = (p.depth ≡ d) × ClosingAt l at p.next
