-- `Entries::of` meets its contract: what is behind the list stays 0. Assumes nothing.
use mathlib.Core.Path.{refl}
use Prim.Native.Nat.{ℕ, ◌-◌}
use lib.ListN.{length}
use Rattle.std.proofs.lemmas.List.{drop-replicate}
use Rattle.table.proofs.Filled.{padded-split, padded-zeros}
use Rattle.layering.proofs.answer.Entries.of.Goals as goal

pub returns : goal.returns
returns c =
    let l = c.args.list.now in
    let behind = drop-replicate {X = ℕ} (length l) 64 0 in
    rw (c.copy_from_slice.ensures.after, behind, padded-split 64 l c.requires, padded-zeros (64 - length l)) refl
