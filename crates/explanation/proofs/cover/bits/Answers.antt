-- `bits` meets its contract: the place begins a word of the row, or the bits are glued from two. Assumes nothing.
use Rattle.explanation.proofs.Rows.{bits-glued}
use Rattle.explanation.proofs.cover.bits.Goals as goal

pub returns : goal.returns
returns c =
    let a = c.args in
    λ j l. bits-glued a.row.now a.place j l _ c.glue.ensures
