-- Answers to the goals of this function. Assumes nothing.
use borrow.Author.Rules.{rules}
use Rattle.text.proofs.TokenLaws.{opening-less, closing-less, word-less}
use Rattle.text.proofs.TokenLaws.{word-le, word-within}
use Rattle.store.proofs.NodeLaws.{storing_none, storing_end, storing_open, storing_close}
use Rattle.store.proofs.NodeLaws.{storing_full, storing_word}
use Rattle.store.proofs.formula_nodes.store_nodes.Goals as goal

pub loop-next-init : goal.loop-next-init
loop-next-init c = search (rules, storing_none)

pub returns-in-End : goal.returns-in-End
returns-in-End c = search (rules, storing_end)

pub loop-next-smaller-in-Open : goal.loop-next-smaller-in-Open
loop-next-smaller-in-Open c = search (rules, opening-less)

pub loop-next-preserved-in-Open : goal.loop-next-preserved-in-Open
loop-next-preserved-in-Open c = search (rules, storing_open)

pub loop-next-smaller-in-Close : goal.loop-next-smaller-in-Close
loop-next-smaller-in-Close c = search (rules, closing-less)

pub loop-next-preserved-in-Close : goal.loop-next-preserved-in-Close
loop-next-preserved-in-Close c = search (rules, storing_close)

pub returns-then-n-ge-NODES : goal.returns-then-n-ge-NODES
returns-then-n-ge-NODES c = search (rules, storing_full)

pub slice_bounds-node_at-end : goal.slice_bounds-node_at-end
slice_bounds-node_at-end c = search (rules, word-le, word-within)

pub loop-next-smaller : goal.loop-next-smaller
loop-next-smaller c = search (rules, word-less)

pub loop-next-preserved : goal.loop-next-preserved
loop-next-preserved c = search (rules, storing_word)
