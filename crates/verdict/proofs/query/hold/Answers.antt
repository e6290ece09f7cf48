-- The goals of `hold`: only queries that are asked are valued, and its loop keeps the invariant. Assumes nothing.
use mathlib.Core.Path.{ap, ◌∙◌}
use native.Mathlib.Omega.{arith}
use Rattle.logic.specs.declared.interpretation.Interpretation.{Interpretation}
use Rattle.planes.specs.Planes.{column}
use Rattle.verdict.specs.Counting.{counts_with}
use Rattle.verdict.specs.Lane.{query_under}
use Rattle.verdict.proofs.Holding.{telling_start, telling-asked, telling_next, telling_end}
use Rattle.verdict.proofs.Asking.{asked-nodes, asked-formula}
use Rattle.verdict.proofs.query.hold.Goals as goal

pub returns-then-asked-eq0 : goal.returns-then-asked-eq0
returns-then-asked-eq0 c =
    let a = c.args in
    telling_end
    {v = query_under (column a.planes.now.trues a.planes.now.falses a.j) a.queries.nodes.now a.queries.formula.now}
    (telling_start (omega arith) (omega arith)) c.if-asked-eq0.true

pub loop-q-init : goal.loop-q-init
loop-q-init c =
    rw (c.into_iter-q-iterator.ensures.into_iter_gives, c.bits_of-q-items.ensures)
    (telling_start (omega arith) (omega arith))

pub value-requires : goal.value-requires
value-requires c =
    let p = c.requires.2 in
    let b = telling-asked c.loop-q.invariant c.in-Some.ensures.steps.0.bit in
    (p.asked-few _ b, asked-nodes p b)

pub loop-q-preserved : goal.loop-q-preserved
loop-q-preserved c =
    let h = c.in-Some.ensures.steps in
    let b = telling-asked c.loop-q.invariant h.0.bit in
    telling_next c.loop-q.invariant h.0.bit
    (c.value.ensures c.requires.2.atoms (asked-formula c.requires.2 b))
    c.with-told.ensures h.1

pub returns : goal.returns
returns c =
    let a = c.args in
    telling_end c.loop-q.invariant c.in-None.ensures.steps.0
    ∙ ap (λ (x : Interpretation). counts_with a.counts (query_under x a.queries.nodes.now a.queries.formula.now))
    c.lane-i.ensures
