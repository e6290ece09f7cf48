-- `table::put_row` meets its contract. The invariant is `RowStored`: the bytes passed are stored. Assumes nothing.
use Rattle.table.proofs.Stores.{RowStored}
use Rattle.table.proofs.put_row.Given as goal

abbrev pub invariant-loop-i : goal.invariant-loop-i
invariant-loop-i l = RowStored l.initial.t l.at l.n l.w l.t l.i
