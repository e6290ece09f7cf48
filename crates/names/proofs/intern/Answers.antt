-- `names::intern` meets its contract: the name is known, or there is no room, or it is stored behind the others.
-- Assumes nothing.
use mathlib.Core.Path.{sym}
use native.Mathlib.Omega.{arith}
use Rattle.names.proofs.Interning.{rows_with-known, rows_with-full, rows_with-new}
use Rattle.names.proofs.Search.{found_some, found_none}
use Rattle.names.proofs.intern.Goals as goal

pub returns-then-is_some-clause-stored : goal.returns-then-is_some-clause-stored
returns-then-is_some-clause-stored c =
    let f = c.find.ensures in
    sym (rows_with-known _ _ _ (found_some _ f.first_row f.within (sym c.if-is_some.ensures)))

pub returns-then-count-eq64-clause-stored : goal.returns-then-count-eq64-clause-stored
returns-then-count-eq64-clause-stored c =
    let f = c.find.ensures in
    sym (rows_with-full _ _ _ (found_none _ f.first_row (sym c.if-is_some.ensures)) (omega arith))

pub returns-clause-stored : goal.returns-clause-stored
returns-clause-stored c =
    let f = c.find.ensures in
    let full = found_none _ f.first_row (sym c.if-is_some.ensures) in
    rw c.put_row.ensures (sym (rows_with-new _ _ _ full (omega arith)))
