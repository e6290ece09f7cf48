-- `decide` meets its contract: what is noted and what the heads left would note is always all (`Deciding`).
-- Assumes nothing.
use Rattle.round.proofs.Deciding.{Deciding}
use Rattle.round.proofs.redo.decide.Given as goal

abbrev pub invariant-loop-a : goal.invariant-loop-a
invariant-loop-a l =
    Deciding l.clauses.words.now l.clauses.count l.heads l.p.trues l.p.falses l.noted.trues l.noted.falses l.c
    l.a-iterator.left
