-- `read::zero` meets its contract: each table is zeroed in its size. Assumes nothing.
use Rattle.reader.proofs.ZeroedTables.{zeroed}
use Rattle.reader.proofs.read.zero.Goals as goal

pub returns : goal.returns
returns c =
    zeroed c.requires (c.fill.ensures.after (λ y h. h)) (c.fill-2.ensures.after (λ y h. h))
    (c.fill-3.ensures.after (λ y h. h)) (c.fill-4.ensures.after (λ y h. h)) (c.fill-5.ensures.after (λ y h. h))
