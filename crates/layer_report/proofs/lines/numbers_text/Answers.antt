-- `numbers_text` meets its contract: a line, and the lines of the atoms. Assumes nothing.
use borrow.Author.Rules.{rules}
use native.Mathlib.Omega.{arith}
use Rattle.layer_report.proofs.Texts.{numbers-room, numbers-written}
use Rattle.layer_report.proofs.lines.numbers_text.Goals as goal

pub layer_lines-requires : goal.layer_lines-requires
layer_lines-requires c = (search rules, search rules, omega (arith, numbers-room))

pub returns : goal.returns
returns c = search numbers-written
