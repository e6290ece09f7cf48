-- The goals of `fill`: its loop keeps the invariant, and each way out gives what is promised. Assumes nothing.
use lib.ListN.{get_or-replicate}
use Rattle.planes.proofs.Filling.{filling_start, filling_next}
use Rattle.planes.proofs.fill.fill.Goals as goal

pub loop-j-init : goal.loop-j-init
loop-j-init c =
    λ s e. filling_start _ s _ _ _ e (λ i l. get_or-replicate 64 i 0 0 l) (λ i l. get_or-replicate 64 i 0 0 l)

pub loop-j-preserved : goal.loop-j-preserved
loop-j-preserved c =
    λ s e. filling_next _ s _ _ _ _ _ _ _ (c.loop-j.invariant s e) c.spread.ensures c.spread-in-loop-j.ensures
    c.next-next.ensures
