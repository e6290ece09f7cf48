-- The goals of `chain::fill`: its loop keeps the invariant. Assumes nothing.
use mathlib.Core.Path.{refl}
use native.Mathlib.Nat.{not-suc-le-zero}
use native.Mathlib.Omega.{arith}
use lib.ListN.{length-set, get_or-replicate}
use Rattle.program.proofs.Heads.{head-lt}
use Rattle.prepared.specs.Chains.{last_of}
use Rattle.prepared.proofs.Filling.{lasts_next, linked-next}
use Rattle.prepared.proofs.chain.fill.Goals as goal

pub loop-k-init : goal.loop-k-init
unfolding last_of
loop-k-init c = (refl, refl, λ a l. get_or-replicate 64 a 0 0 l, λ k l. absurd (not-suc-le-zero l))

pub loop-k-preserved : goal.loop-k-preserved
loop-k-preserved c =
    let l = c.loop-k in
    let cl = c.args.clauses.words.now in
    let e = c.at-clause.ensures in
    rw e.head-is (
      simp length-set l.invariant.0,
      simp length-set l.invariant.1,
      lasts_next cl l.k l.last _ l.invariant.0 l.invariant.2 (rw (e.kind-is, e.head-is) at c.newest.ensures),
      linked-next cl l.k l.prev _ (omega arith) l.invariant.3 (l.invariant.2 _ (head-lt cl l.k)),
    )
