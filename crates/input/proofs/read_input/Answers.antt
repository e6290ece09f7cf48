-- `read_input`: what a read adds. Assumes nothing of the reader but what its bound promises.
use Rattle.std.proofs.Common.{rules}
use Rattle.input.proofs.Reading.{read_on}
use Rattle.input.proofs.read_input.Goals as goal

pub loop-done-preserved : goal.loop-done-preserved
loop-done-preserved g c =
    let before = c.loop-done.invariant in
    let fits = c.in-Ok.ensures.bound.0 in (
      search rules,
      search rules,
      read_on _ _ _ _ _ _ _ before.0 fits before.2 c.in-Ok.ensures.bytes.0,
    )
