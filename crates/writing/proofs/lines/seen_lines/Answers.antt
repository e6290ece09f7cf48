-- The goals of `lines::seen_lines`: its loop keeps the invariant, and each way out gives what is promised.
-- Assumes nothing.
use native.Mathlib.Omega.{arith}
use Rattle.writing.proofs.Bits.{atom-line-start, atom-line-room, atom-line-more, atom-line-end}
use Rattle.writing.proofs.lines.seen_lines.Goals as goal

pub loop-a-init : goal.loop-a-init
loop-a-init c =
    rw (c.into_iter-a-iterator.ensures.into_iter_gives, c.bits_of-a-items.ensures) (atom-line-start _ _ _ _)

pub name_of-name-requires : goal.name_of-name-requires
name_of-name-requires c = omega (arith, c.in-Some.ensures.steps.0.bit.small, c.requires.0)

pub seen_line-page-requires : goal.seen_line-page-requires
seen_line-page-requires c =
    rw c.name_of-name.ensures
    (atom-line-room _ _ _ c.loop-a.invariant c.in-Some.ensures.steps.0 c.requires.1)

pub loop-a-preserved : goal.loop-a-preserved
loop-a-preserved c =
    atom-line-more _ _ _ c.loop-a.invariant c.in-Some.ensures.steps.0
    (rw c.name_of-name.ensures at c.seen_line-page.ensures) c.in-Some.ensures.steps.1

pub returns : goal.returns
returns c = atom-line-end _ _ _ c.loop-a.invariant c.in-None.ensures.steps.0
