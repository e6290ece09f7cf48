-- `text::tokens::token` meets its contract. The invariant is `Passed`: no token stands before place i. Assumes nothing.
use Rattle.text.proofs.TokenLaws.{Passed}
use Rattle.text.proofs.tokens.token.Given as goal

abbrev pub invariant-loop-i : goal.invariant-loop-i
invariant-loop-i l = Passed l.l l.at l.i
