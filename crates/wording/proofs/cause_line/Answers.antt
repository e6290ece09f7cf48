-- `wording::cause_line` meets its contract: the line is its opening, what the setting adds, and its end.
-- Assumes nothing.
use native.Mathlib.Omega.{arith}
use Rattle.wording.proofs.Lines.{cause_room, cause_written}
use Rattle.wording.proofs.cause_line.Goals as goal

pub put_text-first-requires : goal.put_text-first-requires
put_text-first-requires c = omega (arith, cause_room)

pub put_abducibles-end-requires : goal.put_abducibles-end-requires
put_abducibles-end-requires c = omega (arith, cause_room)

pub put_text-requires : goal.put_text-requires
put_text-requires c = omega (arith, cause_room)

pub returns : goal.returns
returns c = search cause_written
