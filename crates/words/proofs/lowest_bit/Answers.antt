-- `words::lowest_bit` meets its contract. Assumes nothing.
use Rattle.words.proofs.BitWalks.{lowest_bit_of}
use Rattle.words.proofs.lowest_bit.Goals as goal

pub returns : goal.returns
returns c = lowest_bit_of c.args.w c.ranges.w.fits c.requires
