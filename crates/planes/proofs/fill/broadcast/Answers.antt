-- The goals of `broadcast`: its loop keeps the invariant, and each way out gives what is promised. Assumes nothing.
use mathlib.Core.Path.{refl, ◌∙◌}
use native.Mathlib.Omega.{arith}
use Rattle.planes.proofs.Filling.{even_start, even_next}
use Rattle.planes.proofs.fill.broadcast.Goals as goal

pub loop-i-init : goal.loop-i-init
loop-i-init c = even_start _ _ refl

pub loop-i-preserved : goal.loop-i-preserved
loop-i-preserved c =
    even_next _ _ _ _ c.loop-i.invariant (omega arith) (λ j m. c.even.ensures j m ∙ c.test.ensures)

pub returns : goal.returns
returns c = λ a l. c.loop-i.invariant.each a (omega arith)
