-- The goals of `wording::put_abducibles`: its loop keeps the invariant, and each way out gives what is promised.
-- Assumes nothing.
use native.Mathlib.Omega.{arith}
use Prim.Native.Nat.{◌≤◌}
use Rattle.program.proofs.Settings.{choice_some}
use Rattle.wording.proofs.Abducibles.{cause_start, cause_room, cause_next, cause_end}
use Rattle.wording.proofs.put_abducibles.Goals as goal

pub loop-atom-init : goal.loop-atom-init
loop-atom-init c =
    rw (c.into_iter-atom-iterator.ensures.into_iter_gives, c.bits_of-atom-items.ensures) (cause_start _ _ _ _ _ _)

pub nonzero_rem-rest : goal.nonzero_rem-rest
nonzero_rem-rest c =
    let the_base_some : 1 ≤ c.choice-base.result =
    rw c.choice-base.ensures (choice_some _ _) in
    the_base_some

pub put_abducible-place-requires : goal.put_abducible-place-requires
put_abducible-place-requires c =
    let l = c.in-Some.ensures.steps.0 in
    let p = c.requires in
    (omega (arith, l.bit.small, p.0), cause_room c.loop-atom.invariant l c.choice-base.ensures p.1)

pub nonzero_div-rest : goal.nonzero_div-rest
nonzero_div-rest c =
    let the_base_some : 1 ≤ c.choice-base.result =
    rw c.choice-base.ensures (choice_some _ _) in
    the_base_some

pub loop-atom-preserved : goal.loop-atom-preserved
loop-atom-preserved c =
    rw c.in-Some.ensures.steps.1
    (cause_next c.loop-atom.invariant c.in-Some.ensures.steps.0 c.choice-base.ensures c.put_abducible-place.ensures)

pub returns : goal.returns
returns c = cause_end c.loop-atom.invariant c.in-None.ensures.steps.0
