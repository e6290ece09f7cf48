-- Answers to the goals of this function. Assumes nothing.
use Rattle.std.proofs.Common.{rules}
use Rattle.grammar.proofs.Literals.{counted-more}
use Rattle.grammar.proofs.literal.body_at.Goals as goal

pub loop-next-preserved : goal.loop-next-preserved
loop-next-preserved c = search (rules, counted-more)
