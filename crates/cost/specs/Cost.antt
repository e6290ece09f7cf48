-- What a set of causes costs, by the table pr of prices, which has the price of each atom.
-- From: document 02, [7] ("A fact and an assumption cost the same; an explanation costs the sum").
--
--   cost_of pr x             the prices of the atoms for which x adds a fact or an assumption, summed
--   cost_under pr causes s   the cost of what setting s of the causes adds
--   priced_in pr             the atoms with a price above 0
use Rattle.std.specs.Prelude.{◌||◌, List, ℕ, ltb, get_or}
use Rattle.words.specs.Choice.{pick}
use Rattle.words.specs.Below.{sum}
use Rattle.words.specs.Bits.{has, word}
use Rattle.program.specs.declared.cause.Additions.{Additions}
use Rattle.program.specs.declared.cause.Causes.{Causes}
use Rattle.program.specs.Setting.{additions_of}

unfoldable pub cost_of : List ℕ → Additions → ℕ
cost_of pr x = sum 64 (λ a. pick (has x.facts a || has x.assumptions a) (get_or pr a 0) 0)

abbrev pub cost_under : List ℕ → Causes → ℕ → ℕ
cost_under pr causes s = cost_of pr (additions_of causes s)

unfoldable pub priced_in : List ℕ → ℕ
priced_in pr = word 64 (λ a. ltb 0 (get_or pr a 0))
