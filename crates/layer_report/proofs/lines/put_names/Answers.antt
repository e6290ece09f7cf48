-- `put_names` meets its contract, name by name (`AtName`). Assumes nothing.
use Rattle.output.proofs.Laying.{writes-length}
use Rattle.layer_report.proofs.Texts.{name-start, name-row, space_room, name-room}
use Rattle.layer_report.proofs.Texts.{name-more, name-end}
use Rattle.layer_report.proofs.lines.put_names.Goals as goal

pub loop-atom-init : goal.loop-atom-init
loop-atom-init c = name-start _ _ _ _

pub put-name-requires : goal.put-name-requires
put-name-requires c = search space_room

pub put_name-place-requires : goal.put_name-place-requires
put_name-place-requires c = (search name-row, search name-room)

pub loop-atom-preserved : goal.loop-atom-preserved
loop-atom-preserved c = search name-more

pub shape_of-out : goal.shape_of-out
shape_of-out c = search writes-length

pub returns : goal.returns
returns c = search name-end
