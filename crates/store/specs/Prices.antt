-- What cost lines say: the price of a cause, and the table of prices.
-- From: document 02, [7] ("The price of a cause is P plus P × S / 100, the supplement rounded to the nearest cent, half
-- a cent upwards. A cause without a line costs 0").
--
--   supplement p s   s per cent of the price p, rounded to the nearest cent, half a cent upwards
--   price_of p s     the price p with its supplement
--   CostRow          an atom and its price
--   has_cost cs a    some row of cs is of atom a
--   price_in cs a    the price of atom a by the rows cs, 0 without a row
--   prices_of cs     the prices of all 64 atoms
use Rattle.std.specs.Prelude.{Bool, false, ◌||◌, List, [], ◌∷◌, ℕ, ◌+◌, ◌*◌, ◌/◌, eqb}
use Rattle.words.specs.Choice.{pick}
use Rattle.words.specs.Lists.{list_of}
use Rattle.program.specs.Case.{price_size}

unfoldable pub supplement : ℕ → ℕ → ℕ
supplement p s = (p * s + 50) / 100

abbrev pub price_of : ℕ → ℕ → ℕ
price_of p s = p + supplement p s

pub record CostRow : Type 0 where
  pub atom : ℕ
  pub price : ℕ

unfoldable pub has_cost : List CostRow → ℕ → Bool
has_cost [] a = false
has_cost (r ∷ cs) a = eqb r.atom a || has_cost cs a

unfoldable pub price_in : List CostRow → ℕ → ℕ
price_in [] a = 0
price_in (r ∷ cs) a = pick (eqb r.atom a) r.price (price_in cs a)

unfoldable pub prices_of : List CostRow → List ℕ
prices_of cs = list_of price_size (price_in cs)
