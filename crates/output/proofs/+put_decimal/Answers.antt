-- `output::put_decimal` meets its contract: one digit, or the digits in front of the last and then the last.
-- The measure is the number. Assumes nothing.
use native.Mathlib.Omega.{arith}
use Rattle.output.proofs.Digits.{one-room, one_written, front-room, last-room, last_written}
use Rattle.output.proofs.+put_decimal.Goals as goal

pub put-requires : goal.put-requires
put-requires t c = search one-room

pub returns-then-n-lt10 : goal.returns-then-n-lt10
returns-then-n-lt10 t c = search one_written

pub put_decimal-next-requires : goal.put_decimal-next-requires
put_decimal-next-requires t c = (omega arith, search front-room)

pub put-requires-2 : goal.put-requires-2
put-requires-2 t c = search last-room

pub returns : goal.returns
returns t c = search last_written
