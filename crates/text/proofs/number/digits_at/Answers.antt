-- Answers to the goals of `text::number::digits_at`. Assumes nothing.
use Rattle.std.proofs.Common.{◌<◌, ◌^◌, arith, rules}
use Rattle.words.proofs.Tests.{failed, passed}
use Rattle.text.proofs.NumberLaws.{digits-empty, counting_small, counting_ends}
use Rattle.text.proofs.NumberLaws.{counting_stops, counting_more}
use Rattle.text.proofs.number.digits_at.Goals as goal

pub returns-then-is_empty : goal.returns-then-is_empty
returns-then-is_empty c = search (rules, digits-empty)

pub returns-then-not-is_ascii_digit : goal.returns-then-not-is_ascii_digit
returns-then-not-is_ascii_digit c = search (rules, counting_stops, failed)

pub overflow_mul-n : goal.overflow_mul-n
overflow_mul-n c =
    let small : c.loop-b.n < 10 ^ 18 = counting_small c.loop-b.invariant (omega arith) (omega arith) in
    search rules

pub overflow_add-n : goal.overflow_add-n
overflow_add-n c =
    let small : c.loop-b.n < 10 ^ 18 = counting_small c.loop-b.invariant (omega arith) (omega arith) in
    search rules

pub loop-b-preserved : goal.loop-b-preserved
loop-b-preserved c = search (rules, counting_more, passed)

pub returns : goal.returns
returns c = search (rules, counting_ends)
