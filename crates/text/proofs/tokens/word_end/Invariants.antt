-- `text::tokens::word_end` meets its contract. The invariant is `InWord`: the bytes passed belong to one word.
-- Assumes nothing.
use Rattle.text.proofs.TokenLaws.{InWord}
use Rattle.text.proofs.tokens.word_end.Given as goal

abbrev pub invariant-loop-i : goal.invariant-loop-i
invariant-loop-i l = InWord l.l l.at l.i
