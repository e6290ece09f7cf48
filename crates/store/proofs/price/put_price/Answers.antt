-- `price::put_price` meets its contract, by the atom's number. Assumes nothing.
use borrow.Author.Tests.{lt-ltb, le-ltb}
use Rattle.store.proofs.price.put_price.Goals as goal

pub returns-then-atom-lt64 : goal.returns-then-atom-lt64
returns-then-atom-lt64 c = rw (lt-ltb _ 64 c.if-atom-lt64.true)

pub returns-else-atom-lt64 : goal.returns-else-atom-lt64
returns-else-atom-lt64 c = rw (le-ltb _ 64 c.if-atom-lt64.false)
