-- What a line brings, which the checks of a line count.
-- From: document 01, "What each operation refuses", 7, 9 and 10; document 02, [7] (16), [9] (literals of `if`, `never`
-- and `avoid` lines, "counted as written, repeats included"), [10] (21, a second edition line).
--
--   brings x        how many clauses, constraints, queries and editions the line x brings, the depth of its formula,
--                   how many literals its body has as written, and what its price and its supplement are
--   bodied, ..      what a clause or a constraint, a query, a cost, an edition line and any other line bring
use Rattle.std.specs.Prelude.{ℕ, length}
use Rattle.text.specs.Numbers.{number_of}
use Rattle.formulas.specs.Sentence.{depth_of}
use Rattle.grammar.specs.declared.brings.Brings.{Brings}
use Rattle.grammar.specs.Line.{Line}

-- n clauses and m constraints with j literals in the body, no formula and no price
abbrev pub bodied : ℕ → ℕ → ℕ → Brings
bodied n m j = record {
  clauses = n;
  constraints = m;
  queries = 0;
  depth = 0;
  literals = j;
  price = 0;
  supplement = 0;
  editions = 0;
}

-- a query whose formula has depth d, which is 1 or more
abbrev pub asking : ℕ → Brings
asking d = record {
  clauses = 0;
  constraints = 0;
  queries = 1;
  depth = d;
  literals = 0;
  price = 0;
  supplement = 0;
  editions = 0;
}

-- a price p, a supplement s and n editions
abbrev worded : ℕ → ℕ → ℕ → Brings
worded p s n = record {
  clauses = 0;
  constraints = 0;
  queries = 0;
  depth = 0;
  literals = 0;
  price = p;
  supplement = s;
  editions = n;
}

-- a price and a supplement alone
abbrev pub pricing : ℕ → ℕ → Brings
pricing p s = worded p s 0

abbrev pub editing : Brings
editing = worded 0 0 1

abbrev pub nothing : Brings
nothing = pricing 0 0

abbrev pub brings : Line → Brings
brings Line.skipped = nothing
brings Line.no_form = nothing
brings (Line.clause k w l) = bodied 1 0 (length l)
brings (Line.constraint k l) = bodied 0 1 (length l)
brings (Line.seen x) = nothing
brings (Line.query f) = asking (depth_of f)
brings (Line.cost w p s) = pricing (number_of p) (number_of s)
brings (Line.atom w) = nothing
brings (Line.edition e) = editing
