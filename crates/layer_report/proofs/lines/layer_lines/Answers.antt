-- `layer_lines` meets its contract, line by line (`AtAtom`). Assumes nothing.
use borrow.Author.Rules.{rules}
use native.Mathlib.Omega.{arith}
use Rattle.output.proofs.Laying.{writes-length}
use Rattle.layer_report.proofs.Texts.{atom-start, atom-room, atom-more, atom-end}
use Rattle.layer_report.proofs.lines.layer_lines.Goals as goal

pub loop-atom-init : goal.loop-atom-init
loop-atom-init c = atom-start _ _ _ _

pub layer_line-place-requires : goal.layer_line-place-requires
layer_line-place-requires c = (omega arith, search rules, search rules, search atom-room)

pub loop-atom-preserved : goal.loop-atom-preserved
loop-atom-preserved c = search atom-more

pub shape_of-out : goal.shape_of-out
shape_of-out c = search writes-length

pub returns : goal.returns
returns c = search atom-end
