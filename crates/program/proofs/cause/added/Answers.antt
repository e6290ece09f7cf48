-- The goals of `program::cause::added`: its loop keeps the invariant, and gives what is promised. Assumes nothing.
use mathlib.Core.Path.{refl, ap, ◌∙◌}
use Prim.Native.Nat.{ℕ, ◌%◌}
use Rattle.program.specs.Digit.{with_digit}
use Rattle.program.proofs.Settings.{walked_start, walked_next, walked_end}
use Rattle.program.proofs.cause.added.Goals as goal

pub loop-atom-init : goal.loop-atom-init
loop-atom-init c =
    rw (c.into_iter-atom-iterator.ensures.into_iter_gives, c.bits_of-atom-items.ensures)
    (walked_start _ _ _ _ refl refl)

pub loop-atom-preserved : goal.loop-atom-preserved
loop-atom-preserved c =
    let l = c.in-Some.ensures.steps in
    let b = c.choice-base.ensures in
    let k = c.loop-atom in
    rw (l.1, b)
    (walked_next _ _ _ _ _ _ _ _ k.invariant l.0
    (c.with-sum.ensures ∙ ap (λ (n : ℕ). with_digit k.sum c.in-Some.atom (k.rest % n)) b))

pub returns : goal.returns
returns c = walked_end _ _ _ _ _ _ c.in-None.ensures.steps.0 c.loop-atom.invariant
