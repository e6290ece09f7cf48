-- The goals of `program::cause::heads`: its loop keeps the invariant. Assumes nothing.
use mathlib.Core.Path.{ap₂, ◌∙◌}
use lib.Bits.{bit_or}
use Rattle.program.proofs.Heads.{heads-none, heads-more}
use Rattle.program.proofs.cause.heads.Goals as goal

pub loop-k-init : goal.loop-k-init
loop-k-init c = heads-none _

pub loop-k-preserved : goal.loop-k-preserved
loop-k-preserved c =
    let s = rw c.at.ensures.head-is at c.single-heads.ensures in
    ap₂ bit_or c.loop-k.invariant s ∙ heads-more c.args.clauses.words.now c.loop-k.k
