-- `lacking` meets its contract, bit by bit. Assumes nothing.
use native.Mathlib.Omega.{arith}
use Rattle.explanation.proofs.Explaining.{lacking_bits}
use Rattle.explanation.proofs.explain.lacking.Goals as goal

pub returns : goal.returns
returns c = lacking_bits _ _ (omega arith)
