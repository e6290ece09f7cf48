-- `embed::causes_layers` meets its contract: words are too few, or what `layers` answers is put to words.
-- Assumes nothing.
use native.Mathlib.Omega.{arith}
use Rattle.embed.proofs.Exports.{layers_done}
use Rattle.embed.proofs.causes_layers.Goals as goal

pub returns : goal.returns
returns c =
    layers_done c.case_in.ensures (omega arith) (omega arith) c.layers-layers.ensures
    c.number.ensures c.put_layers.ensures
