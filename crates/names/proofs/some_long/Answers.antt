-- The goals of `names::some_long`: its loop keeps the invariant, and each way out gives what is promised.
-- Assumes nothing.
use native.Mathlib.Omega.{arith}
use Rattle.names.proofs.LineNames.{long-short, long-none, long-here, long-later}
use Rattle.names.proofs.some_long.Goals as goal

pub returns-in_default : goal.returns-in_default
returns-in_default c = long-none c.loop-at.invariant c.next_name.ensures c.in_default.is

pub returns-then-e-a-gt16 : goal.returns-then-e-a-gt16
returns-then-e-a-gt16 c = long-here c.loop-at.invariant c.next_name.ensures c.in-Some.is (omega arith)

pub loop-at-preserved : goal.loop-at-preserved
loop-at-preserved c = long-later c.loop-at.invariant c.next_name.ensures c.in-Some.is (omega arith)

pub returns : goal.returns
returns c = long-short c.loop-at.invariant (omega arith)
