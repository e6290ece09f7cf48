-- `text::number::digits_at` meets its contract. The invariant is `Counting`: what the digits passed stand for.
-- Assumes nothing.
use Rattle.text.proofs.NumberLaws.{Counting}
use Rattle.text.proofs.number.digits_at.Given as goal

abbrev pub invariant-loop-b : goal.invariant-loop-b
invariant-loop-b l = Counting l.w l.b-index l.n
