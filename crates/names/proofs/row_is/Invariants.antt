-- `names::row_is` meets its contract. The invariant is `RowFrom`: the row is the padded part if what is left of it from
-- its byte j on is. Assumes nothing.
use Rattle.names.proofs.Search.{RowFrom}
use Rattle.names.proofs.row_is.Given as goal

abbrev pub invariant-loop-j : goal.invariant-loop-j
invariant-loop-j l = RowFrom l.names l.i l.w l.j
