-- `wording::answer_text` meets its contract: the lines of the verdicts, three more, those of the settings, and that of
-- the lowest cost. Assumes nothing.
use native.Mathlib.Omega.{arith}
use lib.ListN.{length-append}
use Rattle.wording.proofs.Listings.{answer-room, answer-written, number-ends, minimal-ends}
use Rattle.wording.proofs.answer_text.Goals as goal

pub verdict_lines-second-requires : goal.verdict_lines-second-requires
verdict_lines-second-requires c = omega (arith, answer-room)

pub number_line-third-requires : goal.number_line-third-requires
number_line-third-requires c = record { fits = simp length-append (omega (arith, answer-room)) }

pub number_line-fourth-requires : goal.number_line-fourth-requires
number_line-fourth-requires c = record { fits = simp length-append (omega (arith, answer-room, number-ends)) }

pub pair_line-fifth-requires : goal.pair_line-fifth-requires
pair_line-fifth-requires c = record { fits = simp length-append (omega (arith, answer-room, number-ends)) }

pub cause_lines-sixth-requires : goal.cause_lines-sixth-requires
cause_lines-sixth-requires c = omega (arith, answer-room, number-ends, minimal-ends)

pub cheapest_lines-requires : goal.cheapest_lines-requires
cheapest_lines-requires c = omega (arith, answer-room, number-ends, minimal-ends)

pub returns : goal.returns
returns c = search answer-written
