-- `wording::pair_line` meets its contract: the line is its opening, a number, a space, a number, and its end.
-- Assumes nothing.
use native.Mathlib.Omega.{arith}
use Rattle.wording.proofs.Lines.{pair_room, pair_written}
use Rattle.wording.proofs.pair_line.Goals as goal

pub put_text-first-requires : goal.put_text-first-requires
put_text-first-requires c = omega (arith, pair_room)

pub put_decimal-space-requires : goal.put_decimal-space-requires
put_decimal-space-requires c = omega (arith, pair_room)

pub put-second-requires : goal.put-second-requires
put-second-requires c = omega (arith, pair_room)

pub put_decimal-end-requires : goal.put_decimal-end-requires
put_decimal-end-requires c = omega (arith, pair_room)

pub put_text-requires : goal.put_text-requires
put_text-requires c = omega (arith, pair_room)

pub returns : goal.returns
returns c = search pair_written
