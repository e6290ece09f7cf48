-- `layer_line` meets its contract: the line is its opening, the name, a space, the number, and its end.
-- Assumes nothing.
use native.Mathlib.Omega.{arith}
use Rattle.layer_report.proofs.Texts.{layer_room, layer_written}
use Rattle.layer_report.proofs.lines.layer_line.Goals as goal

pub put_text-name-requires : goal.put_text-name-requires
put_text-name-requires c = omega (arith, layer_room)

pub put_name-space-requires : goal.put_name-space-requires
put_name-space-requires c = omega (arith, layer_room)

pub put-number-requires : goal.put-number-requires
put-number-requires c = omega (arith, layer_room)

pub put_decimal-end-requires : goal.put_decimal-end-requires
put_decimal-end-requires c = omega (arith, layer_room)

pub put_text-requires : goal.put_text-requires
put_text-requires c = omega (arith, layer_room)

pub returns : goal.returns
returns c = search layer_written
