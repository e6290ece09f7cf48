-- What the reader knows between two lines: the record, the tables, and what neither has a place for, which atoms have a
-- cost line and how many edition lines there are.
-- From: document 02, [7] ("when a name has a second cost line", also behind a price of 0), [10] ("when a second edition
-- line comes").
--
--   costed_in cs         the atoms of the rows cs of costs, bit i for atom i
--   cost_atom at x       the atom of the name of the cost x, by the lookup at, 64 where x is no cost
--   CostAtomIs l na n r r is that of the line l, by the first n names in the table na
--   Reached st p t      p and the tables t hold st, which has one edition line at most
--   Bounded p           the counts of p are within the limits
use Rattle.std.specs.Prelude.{◌≡◌, List, ℕ, ◌≤◌, length, Option, unwrap_or}
use Rattle.words.specs.Bits.{word}
use Rattle.text.specs.Tokens.{tokens}
use Rattle.grammar.specs.Line.{Line}
use Rattle.grammar.specs.LineOf.{line_of}
use Rattle.names.specs.Row.{row_of}
use Rattle.store.specs.Lent.{Lent}
use Rattle.store.specs.Prices.{CostRow, has_cost}
use Rattle.store.specs.Saying.{Said}
use Rattle.store.specs.Held.{Held, InLimits}
use Rattle.checks.specs.declared.progress.Progress.{Progress}

abbrev pub costed_in : List CostRow → ℕ
costed_in cs = word 64 (has_cost cs)

abbrev pub cost_atom : (List ℕ → ℕ) → Line → ℕ
cost_atom at Line.skipped = 64
cost_atom at Line.no_form = 64
cost_atom at (Line.clause k w l) = 64
cost_atom at (Line.constraint k l) = 64
cost_atom at (Line.seen x) = 64
cost_atom at (Line.query f) = 64
cost_atom at (Line.cost w p s) = at w
cost_atom at (Line.atom w) = 64
cost_atom at (Line.edition e) = 64

pub record CostAtomIs (l na : List ℕ) (n : ℕ) (r : Option ℕ) : Type 0 where
  pub atom-is : unwrap_or r 64 ≡ cost_atom (row_of na n) (line_of (tokens l))

pub record Reached (st : Said) (p : Progress) (t : Lent) : Type 0 where
  pub held : Held st p.found t
  pub costed_are : p.costed ≡ costed_in st.costs
  pub editions_are : p.editions ≡ length st.editions
  pub editions-few : p.editions ≤ 1

pub record Bounded (p : Progress) : Type 0 where
  pub found-few : InLimits p.found
  pub editions-few : p.editions ≤ 1
