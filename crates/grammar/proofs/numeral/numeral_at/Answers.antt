-- `numeral::numeral_at` meets its contract: each return is one law of the word that stands next. Assumes nothing.
use Rattle.grammar.proofs.Costs.{numeral_wordless, numeral_none, numeral_found}
use Rattle.grammar.proofs.numeral.numeral_at.Goals as goal

pub returns-in_err-a : goal.returns-in_err-a
returns-in_err-a c = rw c.from_residual.ensures (numeral_wordless c.args.l.now c.args.at c.in_err-a.ensures)

pub returns-in_err-value : goal.returns-in_err-value
returns-in_err-value c =
    rw c.from_residual-in_err-value.ensures (numeral_none c.in_ok-a.ensures c.in_err-value.ensures)

pub returns : goal.returns
returns c = numeral_found c.in_ok-a.ensures c.in_ok-value.ensures
