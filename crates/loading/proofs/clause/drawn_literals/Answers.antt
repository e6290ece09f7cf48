-- The goals of `clause::drawn_literals`: its loop keeps the invariant, and each way out gives what is promised.
-- Assumes nothing.
use native.Mathlib.Omega.{arith}
use Rattle.loading.proofs.LiteralTexts.{literals-start, literal-room, literal-more, literals_end, literals_state}
use Rattle.loading.proofs.clause.drawn_literals.Goals as goal

pub loop-done-init : goal.loop-done-init
loop-done-init c = search literals-start

pub literal-pen-requires : goal.literal-pen-requires
literal-pen-requires c = search literal-room

pub loop-done-preserved : goal.loop-done-preserved
loop-done-preserved c = search literal-more

pub returns : goal.returns
returns c = record {
  written = literals_end c.loop-done.invariant (omega arith);
  drawn = literals_state c.loop-done.invariant (omega arith) (omega arith);
}
