-- The goals of `program::cause::settings`: its loop keeps the invariant, and each way out gives what is promised.
-- Assumes nothing.
use native.Mathlib.Omega.{arith}
use Rattle.program.proofs.Counting.{multiplied_next, multiplied_over, multiplied_end}
use Rattle.program.proofs.cause.settings.Goals as goal

pub returns-then-product-gt59049 : goal.returns-then-product-gt59049
returns-then-product-gt59049 c =
    multiplied_over _ _ _ _ _ _ c.loop-atom.invariant c.in-Some.ensures.steps.0 c.choice-product.ensures (omega arith)

pub loop-atom-preserved : goal.loop-atom-preserved
loop-atom-preserved c =
    let b = c.in-Some.ensures.steps in
    rw b.1 (multiplied_next _ _ _ _ _ _ c.loop-atom.invariant b.0 c.choice-product.ensures (omega arith))

pub returns : goal.returns
returns c = multiplied_end _ _ _ _ c.loop-atom.invariant c.in-None.ensures.steps.0
