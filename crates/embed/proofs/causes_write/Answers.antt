-- `embed::causes_write` meets its contract: words are too few, or what `write` answers is put to words.
-- Assumes nothing.
use native.Mathlib.Omega.{arith}
use Rattle.embed.proofs.Exports.{write_done}
use Rattle.embed.proofs.causes_write.Goals as goal

pub returns : goal.returns
returns c =
    write_done c.case_in.ensures (omega arith) (omega arith) c.write-written.ensures
    c.number.ensures c.put_length.ensures
