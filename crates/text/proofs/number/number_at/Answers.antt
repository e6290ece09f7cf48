-- `text::number::number_at` meets its contract: more than seven digits are none. Assumes nothing.
use borrow.Author.Rules.{rules}
use Rattle.text.proofs.NumberLaws.{number-long, number-few}
use Rattle.text.proofs.number.number_at.Goals as goal

pub returns-then-w-gt7 : goal.returns-then-w-gt7
returns-then-w-gt7 c = search (rules, number-long)

pub returns : goal.returns
returns c = search (rules, number-few)
