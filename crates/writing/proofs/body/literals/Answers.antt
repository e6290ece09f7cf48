-- The goals of `body::literals`: its loop keeps the invariant, and each way out gives what is promised.
-- Assumes nothing.
use native.Mathlib.Omega.{arith}
use Rattle.writing.proofs.Bits.{literal-start, literal-room, literal-more, literal-end}
use Rattle.writing.proofs.body.literals.Goals as goal

pub loop-a-init : goal.loop-a-init
loop-a-init c =
    rw (c.into_iter-a-iterator.ensures.into_iter_gives, c.bits_of-a-items.ensures) (literal-start _ _ _ _ _)

pub name_of-name-requires : goal.name_of-name-requires
name_of-name-requires c = omega (arith, c.in-Some.ensures.steps.0.bit.small, c.requires.0)

pub literal-pen-requires : goal.literal-pen-requires
literal-pen-requires c =
    rw c.name_of-name.ensures
    (literal-room _ _ _ _ c.loop-a.invariant c.in-Some.ensures.steps.0 c.requires.1)

pub loop-a-preserved : goal.loop-a-preserved
loop-a-preserved c =
    literal-more _ _ _ _ c.loop-a.invariant c.in-Some.ensures.steps.0
    (rw c.name_of-name.ensures at c.literal-pen.ensures) c.in-Some.ensures.steps.1

pub returns : goal.returns
returns c = literal-end _ _ _ _ c.loop-a.invariant c.in-None.ensures.steps.0
