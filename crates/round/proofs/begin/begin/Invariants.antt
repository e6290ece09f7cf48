-- `begin` meets its contract: the atoms passed have gone the first round (`Beginning`). Assumes nothing.
use Rattle.round.proofs.Beginning.{Beginning}
use Rattle.round.proofs.begin.begin.Given as goal

abbrev pub invariant-loop-i : goal.invariant-loop-i
invariant-loop-i l =
    Beginning l.opening.trues l.opening.falses l.opening.heads l.added.facts l.added.assumptions l.p.trues l.p.falses
    l.c l.i
