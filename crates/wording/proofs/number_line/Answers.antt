-- `wording::number_line` meets its contract: the line is its opening, the number, and its end.
-- Assumes nothing.
use native.Mathlib.Omega.{arith}
use Rattle.wording.proofs.Lines.{number-room, number-written}
use Rattle.wording.proofs.number_line.Goals as goal

pub put_text-number-requires : goal.put_text-number-requires
put_text-number-requires c = omega (arith, number-room)

pub put_decimal-end-requires : goal.put_decimal-end-requires
put_decimal-end-requires c = omega (arith, number-room)

pub put_text-requires : goal.put_text-requires
put_text-requires c = omega (arith, number-room)

pub returns : goal.returns
returns c = search number-written
