-- `words::lowest` meets its contract: 2 ^ 64 − 1 without its lowest 64 − n bits. Assumes nothing.
use Rattle.words.proofs.Bits.{top_shifted}
use Rattle.words.proofs.lowest.Goals as goal

pub returns : goal.returns
returns c = top_shifted c.args.n c.requires.1
