-- The goals of `names::row_is`: its loop keeps the invariant, and each way out gives what is promised.
-- Assumes nothing.
use borrow.Author.Rules.{rules}
use Rattle.names.proofs.Search.{row-from-none, row-from-more, row-from-stops, row-from-ends}
use Rattle.names.proofs.row_is.Goals as goal

pub loop-j-init : goal.loop-j-init
loop-j-init c = search (rules, row-from-none)

pub returns-then-names-row : goal.returns-then-names-row
returns-then-names-row c = search (rules, row-from-stops, c.if-names-row.true)

pub loop-j-preserved : goal.loop-j-preserved
loop-j-preserved c = search (rules, row-from-more)

pub returns : goal.returns
returns c = search (rules, row-from-ends)
