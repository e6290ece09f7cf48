-- The goals of `program::cause::firm_heads`: its loop keeps the invariant. Assumes nothing.
use Rattle.program.proofs.Heads.{firm-none, firm-next}
use Rattle.program.proofs.cause.firm_heads.Goals as goal

pub loop-k-init : goal.loop-k-init
loop-k-init c = firm-none _

pub loop-k-preserved : goal.loop-k-preserved
loop-k-preserved c =
    let e = c.at-clause.ensures in
    firm-next c.args.clauses.words.now c.loop-k.k _ _ c.loop-k.invariant
    (rw (e.kind-is, e.head-is) at c.with_bit-heads.ensures)
