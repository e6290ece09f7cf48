-- `commit` meets its contract: for either plane, the atoms left bring it to what the whole word makes of it
-- (`Committing`). Assumes nothing.
use Rattle.round.proofs.Committing.{Committing}
use Rattle.round.proofs.redo.commit.Given as goal

abbrev pub invariant-loop-i : goal.invariant-loop-i
invariant-loop-i l = Committing l.w l.noted.trues l.initial.p.trues l.p.trues l.i-iterator.left
    × Committing l.w l.noted.falses l.initial.p.falses l.p.falses l.i-iterator.left
