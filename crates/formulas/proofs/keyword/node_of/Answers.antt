-- `keyword::node_of` meets its contract: the words of the table are the words of forms. Assumes nothing.
use Rattle.formulas.proofs.Keywords.{place-node, no-node}
use Rattle.formulas.proofs.keyword.node_of.Goals as goal

pub returns-in_err-place : goal.returns-in_err-place
returns-in_err-place c = rw c.from_residual.ensures (no-node c.in_err-place.ensures)

pub returns : goal.returns
returns c = place-node c.in_ok-place.ensures
