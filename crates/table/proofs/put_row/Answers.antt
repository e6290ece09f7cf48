-- Answers to the goals of this function. Assumes nothing.
use borrow.Author.Rules.{rules}
use Rattle.table.proofs.Stores.{row_stored_none, row_stored_more, row_stored_all}
use Rattle.table.proofs.put_row.Goals as goal

pub loop-i-init : goal.loop-i-init
loop-i-init c = search (rules, row_stored_none)

pub loop-i-preserved : goal.loop-i-preserved
loop-i-preserved c = search (rules, row_stored_more)

pub returns : goal.returns
returns c = search (rules, row_stored_all)
