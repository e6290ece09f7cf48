-- The goals of `lines::drawn_clauses`: its loop keeps the invariant, and each way out gives what is promised.
-- Assumes nothing.
use borrow.Author.Rules.{rules}
use Rattle.loading.proofs.LineTexts.{clauses-start, clause-room, clause-more, clauses-end}
use Rattle.loading.proofs.lines.drawn_clauses.Goals as goal

pub loop-done-init : goal.loop-done-init
loop-done-init c = search clauses-start

pub drawn_clause-page-requires : goal.drawn_clause-page-requires
drawn_clause-page-requires c = (search rules, search clause-room)

pub loop-done-preserved : goal.loop-done-preserved
loop-done-preserved c = search clause-more

pub returns : goal.returns
returns c = search clauses-end
