-- `give` meets its contract: what is done and what is left of the word's atoms is always all (`Giving`).
-- Assumes nothing.
use Rattle.layering.proofs.Peeling.{Giving}
use Rattle.layering.proofs.numbers.give.Given as goal

abbrev pub invariant-loop-a : goal.invariant-loop-a
invariant-loop-a l = Giving l.initial.numbers l.w l.k l.numbers l.a-iterator.left
