-- `embed::causes_settle` meets its contract: words are too few, or what `settle_one` answers is put to words.
-- Assumes nothing.
use native.Mathlib.Omega.{arith}
use Rattle.embed.proofs.Exports.{settle_done}
use Rattle.embed.proofs.causes_settle.Goals as goal

pub returns : goal.returns
returns c =
    settle_done c.case_in.ensures (omega arith) (omega arith) c.settle_one-settled.ensures
    c.number.ensures c.put_settled.ensures
