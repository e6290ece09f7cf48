-- `even` meets its contract: a word with all bits, or with none. Assumes nothing.
use mathlib.Core.Path.{◌∙◌, sym}
use Rattle.words.proofs.Bits.{has-zero}
use Rattle.planes.proofs.Columns.{all_lanes}
use Rattle.planes.proofs.fill.even.Goals as goal

pub returns-then-on : goal.returns-then-on
returns-then-on c = λ j l. all_lanes j l ∙ sym c.if-on.true

pub returns-else-on : goal.returns-else-on
returns-else-on c = λ j l. has-zero j ∙ sym c.if-on.false
