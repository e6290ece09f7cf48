-- `glue` meets its contract, by the laws of shifted words. Assumes nothing.
use native.Mathlib.Omega.{arith}
use Rattle.explanation.proofs.Shifting.{glued}
use Rattle.explanation.proofs.cover.glue.Goals as goal

pub returns : goal.returns
returns c = glued _ _ _ (omega arith) c.requires.1
