-- `walk` meets its contract: each call is given what it asks, and each block keeps `Walking`. Assumes nothing.
use native.Mathlib.Omega.{arith}
use Rattle.program.proofs.Soundness.{sound-formulas, sound-settings}
use Rattle.walk.proofs.Bounds.{clauses_fit, constraints_fit, formula-fits}
use Rattle.walk.proofs.Blocks.{bounded, end-few, weights_few, walking_start, word-inside, walking_room, walking_work}
use Rattle.walk.proofs.Blocks.{lanes_planes, rounds_fit, decided_fit, walking_next}
use Rattle.walk.proofs.walk.walk.Goals as goal

pub invariant_of-clauses : goal.invariant_of-clauses
invariant_of-clauses c =
    let l = clauses_fit _ _ _ _ c.requires.0.is-sound in
    record { few = l.0; held = l.1 }

pub weigh-weights-requires : goal.weigh-weights-requires
weigh-weights-requires c =
    rw c.requires.0.causes_are (sound-settings _ _ _ _ c.requires.0.is-sound)

pub none-requires : goal.none-requires
none-requires c = sound-formulas _ _ _ _ c.requires.0.is-sound

pub loop-b-init : goal.loop-b-init
loop-b-init c =
    let p = c.requires in
    rw c.none.ensures (walking_start (bounded p.0 p.1 p.2) _)

pub explaining-explains-requires : goal.explaining-explains-requires
explaining-explains-requires c =
    let p = c.requires in
    let i = c.loop-b.invariant in
    let x = (c.fill-next.ensures _ i.added_is).0 in
    let n = constraints_fit _ _ _ _ p.0.is-sound in
    (lanes_planes (bounded p.0 p.1 p.2) i (omega arith) c.lanes_of-m.ensures x c.run-sums.ensures, n.0, n.1)

pub cover-larger-requires : goal.cover-larger-requires
cover-larger-requires c =
    let p = c.requires in
    let g = bounded p.0 p.1 p.2 in
    let w = weights_few g c.weigh-weights.result c.weigh-weights.ensures in
    (omega arith, word-inside g c.loop-b.invariant (omega arith), w)

pub invariant_of-queries : goal.invariant_of-queries
invariant_of-queries c = record { long = formula-fits _ _ _ _ c.requires.0.is-sound }

pub visit-tally-requires : goal.visit-tally-requires
visit-tally-requires c =
    let p = c.requires in
    let g = bounded p.0 p.1 p.2 in
    let m = c.lanes_of-m.ensures in (
      omega (arith, m),
      omega (arith, m, end-few g),
      omega (arith, m, walking_work g c.loop-b.invariant),
      walking_room g c.loop-b.invariant (omega arith),
    )

pub overflow_add-tally : goal.overflow_add-tally
overflow_add-tally c =
    let p = c.requires in
    let i = c.loop-b.invariant in
    let x = (c.fill-next.ensures _ i.added_is).0 in
    omega (arith, rounds_fit (bounded p.0 p.1 p.2) i (omega arith) c.lanes_of-m.ensures x c.run-sums.ensures)

pub overflow_add-tally-in-loop-b : goal.overflow_add-tally-in-loop-b
overflow_add-tally-in-loop-b c =
    let p = c.requires in
    let i = c.loop-b.invariant in
    let x = (c.fill-next.ensures _ i.added_is).0 in
    omega (arith, decided_fit (bounded p.0 p.1 p.2) i (omega arith) c.lanes_of-m.ensures x c.run-sums.ensures)

pub choose-tally-requires : goal.choose-tally-requires
choose-tally-requires c =
    let p = c.requires in
    let few = end-few (bounded p.0 p.1 p.2) in
    (p.3, c.priced_in-priced.ensures, omega (arith, c.minimals_of-minimals.ensures.first-is, few))

pub loop-b-preserved : goal.loop-b-preserved
loop-b-preserved c =
    let p = c.requires in
    let i = c.loop-b.invariant in
    let x = c.fill-next.ensures _ i.added_is in
    walking_next (bounded p.0 p.1 p.2) i (omega arith) c.lanes_of-m.ensures x.0 c.run-sums.ensures
    c.weigh-weights.ensures c.explaining-explains.ensures c.cover-larger.ensures x.1 c.visit-tally.ensures
    c.minimals_of-minimals.ensures c.choose-tally.ensures
