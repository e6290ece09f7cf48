-- `masks::with_literal` meets its contract. Assumes nothing.
use Rattle.store.proofs.masks.with_literal.Goals as goal

pub returns-then-negated : goal.returns-then-negated
returns-then-negated c = rw (c.if-negated.true, c.with_atom.ensures)

pub returns-else-negated : goal.returns-else-negated
returns-else-negated c = rw (c.if-negated.false, c.with_atom-else-negated.ensures)
