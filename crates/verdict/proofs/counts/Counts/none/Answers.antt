-- `none` meets its contract: of no explanation all queries are true under each, and false. Assumes nothing.
use Rattle.words.proofs.Words.{lowest_word}
use Rattle.verdict.proofs.counts.Counts.none.Goals as goal

pub returns : goal.returns
returns c = rw (lowest_word _ _ c.lowest-all.ensures)
