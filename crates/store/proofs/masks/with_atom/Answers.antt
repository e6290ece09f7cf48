-- `masks::with_atom` meets its contract. Assumes nothing.
use borrow.Author.Tests.{lt-ltb, le-ltb}
use Rattle.store.proofs.masks.with_atom.Goals as goal

pub returns-then-atom-lt64 : goal.returns-then-atom-lt64
returns-then-atom-lt64 c = rw (lt-ltb c.args.atom 64 c.if-atom-lt64.true, c.single.ensures)

pub returns-else-atom-lt64 : goal.returns-else-atom-lt64
returns-else-atom-lt64 c = rw (le-ltb c.args.atom 64 c.if-atom-lt64.false)
