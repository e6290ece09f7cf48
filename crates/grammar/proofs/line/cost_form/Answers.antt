-- `line::cost_form` meets its contract: each return is one law of the words behind the line's word. Assumes nothing.
use Rattle.grammar.proofs.Costs.{cost_unnamed, cost_unpriced, cost-half_priced, cost_found}
use Rattle.grammar.proofs.line.cost_form.Goals as goal

pub returns-in_err-a : goal.returns-in_err-a
returns-in_err-a c = rw c.from_residual.ensures (cost_unnamed c.args.l.now c.args.at c.in_err-a.ensures)

pub returns-in_err-price : goal.returns-in_err-price
returns-in_err-price c =
    rw c.from_residual-in_err-price.ensures (cost_unpriced c.in_ok-a.ensures c.in_err-price.ensures)

pub returns-in_err-supplement : goal.returns-in_err-supplement
returns-in_err-supplement c =
    rw c.from_residual-in_err-supplement.ensures
    (cost-half_priced c.in_ok-a.ensures c.in_ok-price.ensures c.in_err-supplement.ensures)

pub returns : goal.returns
returns c =
    rw c.then_some.ensures
    (cost_found c.in_ok-a.ensures c.in_ok-price.ensures c.in_ok-supplement.ensures c.ends_line.ensures)
