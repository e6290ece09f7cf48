-- `writable::is_repeated` meets its contract: the first row that is the same stands before the row itself where there
-- is one. Assumes nothing.
use mathlib.Core.Path.{◌∙◌}
use Prim.Native.Nat.{◌+◌, ◌*◌}
use native.Mathlib.Omega.{arith}
use Rattle.text.proofs.Slices.{part_slice}
use Rattle.writing.proofs.Names.{found-test, row_repeated}
use Rattle.writing.proofs.writable.is_repeated.Goals as goal

pub returns : goal.returns
returns c =
    let t = c.args.names.now in
    let row = c.args.atom * 16 in
    let part = part_slice t row (row + 16) (omega arith) in
    c.is_some.ensures
    ∙ found-test _ _ c.find.ensures.within
    ∙ row_repeated t c.args.atom c.requires.0 c.requires.1 (rw part at c.find.ensures.first_row)
