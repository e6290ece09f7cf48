-- `line::query_form` meets its contract: each return is one law of the formula behind the line's word. Assumes nothing.
use Rattle.grammar.proofs.Forms.{query_found}
use Rattle.grammar.proofs.line.query_form.Goals as goal

pub returns : goal.returns
returns c = rw c.then_some.ensures (query_found c.in_ok-next.ensures c.ends_line.ensures)
