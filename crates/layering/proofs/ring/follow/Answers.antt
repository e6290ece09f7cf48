-- `follow` meets its contract: while the atom is new there is room for it in the path, and one atom more keeps the
-- path followed. Assumes nothing.
use mathlib.Core.Path.{refl, sym, ◌∙◌}
use native.Mathlib.Omega.{arith}
use Rattle.layering.proofs.Following.{followed_start, followed_next, followed_room}
use Rattle.layering.proofs.ring.follow.Goals as goal

pub loop-atoms-init : goal.loop-atoms-init
loop-atoms-init c = followed_start _ _ _ _ refl c.lowest_bit-at.ensures

pub bounds-atoms-len : goal.bounds-atoms-len
bounds-atoms-len c = followed_room _ _ c.loop-atoms.invariant (sym c.test.ensures ∙ c.loop-atoms-test.true)

pub loop-atoms-smaller : goal.loop-atoms-smaller
loop-atoms-smaller c =
    let free = followed_room _ _ c.loop-atoms.invariant (sym c.test.ensures ∙ c.loop-atoms-test.true) in
    omega arith

pub loop-atoms-preserved : goal.loop-atoms-preserved
loop-atoms-preserved c =
    let unseen = sym c.test.ensures ∙ c.loop-atoms-test.true in
    let b = c.next-at.ensures in
    rw c.single-seen.ensures (followed_next _ _ c.loop-atoms.invariant unseen _ b.0 b.1)
