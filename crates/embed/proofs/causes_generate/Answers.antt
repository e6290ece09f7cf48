-- `embed::causes_generate` meets its contract: the words are too few, or what `generate` answers is put to words.
-- Assumes nothing.
use native.Mathlib.Omega.{arith}
use Rattle.embed.specs.Operation.{GenerateOut}
use Rattle.embed.proofs.causes_generate.Goals as goal

pub returns : goal.returns
returns c = GenerateOut.done (omega arith) _ c.generate-written.ensures c.number.ensures c.put_length.ensures
