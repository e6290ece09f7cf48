-- The goals of `number`: its loop keeps the invariant, and each way out gives what is promised. Assumes nothing.
use mathlib.Core.Path.{sym, ap, ◌∙◌}
use lib.Bits.{bit_and}
use Rattle.layering.proofs.Peeling.{peeled_start, peeled_next, peeled_end}
use Rattle.layering.proofs.numbers.number.Goals as goal

pub loop-k-init : goal.loop-k-init
loop-k-init c = peeled_start _ _ _ c.lowest-left.ensures

pub loop-k-preserved : goal.loop-k-preserved
loop-k-preserved c =
    let l = c.loop-k in
    peeled_next _ _ c.requires.1 _ _ _ _ _ l.invariant (ap (bit_and l.left) c.touched.ensures) c.give.ensures

pub returns-then-next-left : goal.returns-then-next-left
returns-then-next-left c =
    let l = c.loop-k in
    peeled_end _ _ c.requires.1 _ _ _ l.auto.k-end l.invariant
    (ap (bit_and l.left) (sym c.touched.ensures) ∙ c.if-next-left.true)
