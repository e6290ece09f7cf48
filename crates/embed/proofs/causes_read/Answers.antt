-- `embed::causes_read` meets its contract: the words are too few, or what `read` answers is put to words.
-- Assumes nothing.
use native.Mathlib.Omega.{arith}
use Rattle.embed.specs.Operation.{ReadOut}
use Rattle.embed.proofs.causes_read.Goals as goal

pub returns : goal.returns
returns c = ReadOut.done (omega arith) _ c.read-found.ensures c.number_read.ensures c.put_found.ensures
