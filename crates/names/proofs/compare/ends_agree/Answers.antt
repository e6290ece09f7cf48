-- `ends_agree` meets its contract. Assumes nothing.
use native.Mathlib.Omega.{arith}
use Rattle.names.proofs.Compared.{row_part, ends-none, ends-first, ends_last}
use Rattle.names.proofs.compare.ends_agree.Goals as goal

pub returns-in-empty : goal.returns-in-empty
returns-in-empty c = rw row_part (ends-none _ _ (omega arith))

pub returns-then-row-first : goal.returns-then-row-first
returns-then-row-first c =
    let p = row_part c.args.names.now c.args.i in
    ends_last _ _ (rw p at c.if-row-first.true) (rw p at c.byte_or_zero.ensures)

pub returns-else-row-first : goal.returns-else-row-first
returns-else-row-first c =
    let p = row_part c.args.names.now c.args.i in
    rw row_part (ends-first _ _ (rw p at c.if-row-first.false))
