-- `words::test` meets its contract. Assumes nothing.
use Rattle.words.proofs.Bits.{shl_one}
use Rattle.words.proofs.Words.{test-one}
use Rattle.words.proofs.test.Goals as goal

pub returns : goal.returns
returns c = rw (shl_one 64 c.args.i c.requires) (test-one 64 c.args.w c.args.i c.ranges.w.fits c.requires)
