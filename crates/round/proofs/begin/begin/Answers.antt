-- `begin` meets its contract: each atom in turn goes the first round in each lane (`Beginning`). Assumes nothing.
use native.Mathlib.Omega.{arith}
use borrow.Author.Rules.{rules}
use Rattle.round.proofs.Beginning.{beginning_start, beginning_next, beginning_end}
use Rattle.round.proofs.begin.begin.Goals as goal

pub loop-i-init : goal.loop-i-init
loop-i-init c = beginning_start _ _ _ _ _ _ _ (record { first-size = search rules; second-size = search rules })

pub loop-i-preserved : goal.loop-i-preserved
loop-i-preserved c =
    beginning_next _ _ _ _ _ _ _ _ _ c.loop-i.invariant (omega arith) _ _ c.open_word-v.ensures c.with-c.ensures

pub returns : goal.returns
returns c = beginning_end _ _ _ _ _ _ _ _ _ c.loop-i.invariant (omega arith)
