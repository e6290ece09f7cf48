-- A step of the walk over the bits of a word leaves a smaller word. Assumes nothing.
use Rattle.std.proofs.Common.{rules}
use Rattle.words.proofs.BitWalks.{without_less}
use Rattle.words.proofs.walk.BitsIterator.next.Goals as goal

pub returns-clause-goes : goal.returns-clause-goes
returns-clause-goes c =
    let b = c.lowest_bit-i.ensures in
    record {
      on = λ _. (search rules, search rules, rw (c.without_lowest-self.ensures _ b) (without_less _ _ b.bit));
      keeps = search rules;
      rests = search rules;
    }
