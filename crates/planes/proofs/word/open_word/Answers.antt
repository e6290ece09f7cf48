-- `open_word` meets its contract: what it joins are these tests in each lane. Assumes nothing.
use native.Mathlib.Omega.{arith}
use Rattle.planes.proofs.Words.{opens_word}
use Rattle.planes.proofs.word.open_word.Goals as goal

pub returns : goal.returns
returns c =
    let a = c.args in
    opens_word a.t a.f a.head a.fact a.assumed (omega arith) (omega arith)
