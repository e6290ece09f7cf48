-- The goals of `all_met`: its loop keeps the invariant, and ends with every constraint passed. Assumes nothing.
use native.Mathlib.Omega.{arith}
use borrow.Author.Rules.{rules}
use Rattle.explanation.proofs.Explaining.{passing_next, passing_end}
use Rattle.explanation.proofs.explain.all_met.Goals as goal

pub loop-k-preserved : goal.loop-k-preserved
loop-k-preserved c = search (rules, passing_next)

pub returns : goal.returns
returns c = passing_end _ _ _ _ _ _ _ c.loop-k.invariant (omega arith)
