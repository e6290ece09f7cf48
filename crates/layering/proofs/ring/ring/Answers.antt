-- `ring` meets its contract: the path's end is a ring from the place of the atom that came again. Assumes nothing.
use Rattle.layering.proofs.Following.{followed_place, followed_ring}
use Rattle.layering.proofs.ring.ring.Goals as goal

pub place-requires : goal.place-requires
place-requires c = followed_place _ _ c.follow-len.ensures.0 c.follow-len.ensures.1

pub returns : goal.returns
returns c =
    let e = c.place.ensures in
    followed_ring _ _ c.follow-len.ensures.0 _ e.0 e.1 c.of.ensures
