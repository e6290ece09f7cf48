-- The goals of `dependent::fill`: its loop keeps the invariant. Assumes nothing.
use mathlib.Core.Path.{◌∙◌}
use lib.ListN.{get_or-replicate}
use Rattle.prepared.proofs.Filling.{dependents_none, dependents_next}
use Rattle.prepared.proofs.dependent.fill.Goals as goal

pub loop-k-init : goal.loop-k-init
loop-k-init c = λ i l. get_or-replicate 64 i 0 0 l ∙ dependents_none c.args.clauses.words.now i

pub loop-k-preserved : goal.loop-k-preserved
loop-k-preserved c =
    let l = c.loop-k in
    let e = c.at-clause.ensures in
    dependents_next c.args.clauses.words.now l.dependents _ l.k l.invariant
    (rw (e.head-is, e.plain-is, e.negated-is) at c.spread.ensures)
