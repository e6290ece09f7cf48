-- `lines::priced_line` meets its contract: a line where the price is above 0. Assumes nothing.
use native.Mathlib.Omega.{arith}
use lib.ListN.{get_or}
use borrow.Author.Tests.{le-ltb, lt-ltb}
use Rattle.writing.proofs.CaseTexts.{line_absent, line-room-there, line-there}
use Rattle.writing.proofs.lines.priced_line.Goals as goal

pub returns-then-price-eq0 : goal.returns-then-price-eq0
returns-then-price-eq0 c =
    line_absent _ (le-ltb 0 (get_or c.args.prices.now c.args.atom 0) (omega arith))

pub cost_line-requires : goal.cost_line-requires
cost_line-requires c =
    rw c.name_of.ensures
    (line-room-there _ (lt-ltb 0 (get_or c.args.prices.now c.args.atom 0) (omega arith)) c.requires.2)

pub returns : goal.returns
returns c =
    line-there _ (lt-ltb 0 (get_or c.args.prices.now c.args.atom 0) (omega arith))
    (rw c.name_of.ensures at c.cost_line.ensures)
