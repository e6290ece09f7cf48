-- `run` meets its contract: each round keeps `Settling`, and what it says bounds the sums. Assumes nothing.
use mathlib.Core.Path.{◌≡◌, refl, ◌∙◌}
use native.Mathlib.Omega.{arith}
use lib.Bits.{bit_and}
use lib.Count.{ones}
use Rattle.prepared.specs.Dependents.{touched_from}
use Rattle.prepared.proofs.Touching.{touched-from}
use Rattle.lanes.proofs.FirstRound.{settling_start}
use Rattle.lanes.proofs.LaneRounds.{settling_planes, settling_few, settling_total}
use Rattle.lanes.proofs.LaneRounds.{settling_next, settling_end}
use Rattle.lanes.proofs.rounds.run.Goals as goal

pub loop-c-init : goal.loop-c-init
loop-c-init c =
    let p = c.requires in (
      settling_start _ _ _ p.0.opening-is _ _ _ _ _ _ _ p.1.trues_are p.1.falses_are p.1.heads_are _
          c.begin-c.ensures _,
      record { first-size = refl; second-size = refl },
    )

pub decided_in-requires : goal.decided_in-requires
decided_in-requires c =
    let p = c.requires in
    (p.2, p.3, settling_planes _ _ _ _ p.3 _ _ _ _ _ c.loop-c.invariant.0)

pub overflow_add-total : goal.overflow_add-total
overflow_add-total c =
    let valid = c.lowest-valid.result in
    let counted : c.count-total.result ≡ ones (bit_and c.loop-c.c.lanes valid) = c.count-total.ensures in
    let i = c.loop-c.invariant.0 in
    let total = settling_total _ _ _ _ c.requires.3 _ _ _ _ _ i valid (omega arith) (omega arith) in
    omega (arith, counted, total)

pub redo-c-requires : goal.redo-c-requires
redo-c-requires c =
    let q = c.requires.0 in
    let i = c.loop-c.invariant in
    let planes = settling_planes _ _ _ _ c.requires.3 _ _ _ _ _ i.0 in
    (q.lasts_are, q.linked, planes, i.1)

pub overflow_add-k : goal.overflow_add-k
overflow_add-k c =
    let i = c.loop-c.invariant.0 in
    let few = settling_few _ _ _ _ c.requires.3 _ _ _ _ _ i (omega arith) c.loop-c-test.true in
    omega (arith, few)

pub loop-c-smaller : goal.loop-c-smaller
loop-c-smaller c =
    let i = c.loop-c.invariant.0 in
    let few = settling_few _ _ _ _ c.requires.3 _ _ _ _ _ i (omega arith) c.loop-c-test.true in
    omega (arith, few)

pub loop-c-preserved : goal.loop-c-preserved
loop-c-preserved c =
    let a = c.args in
    let i = c.loop-c.invariant.0 in
    let e = c.redo-c.ensures in
    let counted = c.count-total.ensures in
    let dependents = touched-from _ _ a.preparation.now.dependents c.requires.0.dependents_are _ in
    let heads : c.touched-heads.result ≡ touched_from a.clauses.words.now a.clauses.count c.loop-c.c.atoms =
    c.touched-heads.ensures ∙ dependents in (
      rw counted (settling_next _ _ _ _ c.requires.3 _ _ _ _ _ i _ _ _ _ _ (omega arith) (omega arith)
          c.lowest-valid.ensures heads e.sizes.0 e.redone),
      e.sizes.1,
    )

pub returns : goal.returns
returns c =
    rw (c.from.ensures, c.from-2.ensures)
    (settling_end _ _ _ _ c.requires.3 _ _ _ _ _ c.loop-c.invariant.0 c.loop-c-test.false c.decided_in.ensures)
