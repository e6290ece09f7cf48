-- `table::put_three` meets its contract: the part is written whole. Assumes nothing.
use mathlib.Core.Path.{refl}
use Rattle.table.proofs.Stores.{part_stored}
use Rattle.table.proofs.put_three.Goals as goal

pub returns : goal.returns
returns c = part_stored _ _ _ _ _ refl c.requires c.copy_from_slice.ensures.after
