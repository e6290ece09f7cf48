-- The goals of `rules`: its loop keeps the invariant, and each way out gives what is promised. Assumes nothing.
use Prim.Native.Nat.{◌-◌}
use native.Mathlib.Omega.{arith}
use Rattle.program.specs.Case.{head_at}
use Rattle.prepared.proofs.RuleChains.{last-le}
use Rattle.planes.proofs.Ruling.{ruling_start, ruling_next, ruling_end}
use Rattle.planes.proofs.plane.rules.Goals as goal

pub loop-k-init : goal.loop-k-init
loop-k-init c = ruling_start _ _ _ _ _ _ c.requires.0

pub loop-k-smaller : goal.loop-k-smaller
loop-k-smaller c =
    let cl = c.args.clauses.words.now in
    let k = c.loop-k.k - 1 in
    let link = c.requires.1 k (omega arith) in
    omega (arith, last-le cl (head_at cl k) k, link)

pub loop-k-preserved : goal.loop-k-preserved
loop-k-preserved c =
    let k = c.loop-k.k - 1 in
    let link = c.requires.1 k (omega arith) in
    let e = c.at-clause.ensures in
    let v = rw (e.plain-is, e.negated-is) at c.body-v.ensures in
    ruling_next _ _ _ _ _ _ _ _ _ _ c.loop-k.invariant k (omega arith) v link

pub returns : goal.returns
returns c = ruling_end _ _ _ _ _ _ _ _ c.loop-k.invariant c.loop-k-test.false
