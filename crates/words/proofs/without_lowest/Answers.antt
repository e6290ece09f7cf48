-- `words::without_lowest` meets its contract. Assumes nothing.
use Rattle.words.proofs.LowestBit.{and-one-less}
use Rattle.words.proofs.without_lowest.Goals as goal

pub returns : goal.returns
returns c = λ i l. and-one-less c.args.w i c.ranges.w.fits l
