-- The goals of `names::intern_line`: its loop keeps the invariant, and each way out gives what is promised.
-- Assumes nothing.
use native.Mathlib.Omega.{arith}
use Rattle.names.proofs.LineNames.{adding_none, adding_more, adding_full}
use Rattle.names.proofs.intern_line.Goals as goal

pub returns-in_err-n-clause-stored : goal.returns-in_err-n-clause-stored
returns-in_err-n-clause-stored c =
    let full = adding_full c.loop-a.invariant.adding c.next_name.ensures c.in-Some.is c.in_err-n.ensures.stored in
    rw c.from_residual.ensures (full (omega arith))

pub loop-a-preserved : goal.loop-a-preserved
loop-a-preserved c = record {
  few = c.in_ok-n.ensures.few;
  same-length = omega arith;
  adding = adding_more c.loop-a.invariant.adding c.next_name.ensures c.in-Some.is c.in_ok-n.ensures.stored
      c.in_ok-n.ensures.few;
}

pub returns-clause-stored : goal.returns-clause-stored
returns-clause-stored c = adding_none c.loop-a.invariant.adding c.next_name.ensures c.in_default.is
