-- `undecided` meets its contract: the lanes that neither word has. Assumes nothing.
use native.Mathlib.Omega.{arith}
use Rattle.planes.proofs.Words.{undecided-has}
use Rattle.planes.proofs.word.undecided.Goals as goal

pub returns : goal.returns
returns c = λ j l. undecided-has c.args.trues c.args.falses (omega arith) (omega arith) j l
