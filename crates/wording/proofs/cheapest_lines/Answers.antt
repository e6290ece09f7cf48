-- `wording::cheapest_lines` meets its contract: nothing where nothing explains, otherwise the one line.
-- Assumes nothing.
use Rattle.output.proofs.Laying.{writes-none}
use Rattle.wording.proofs.LineTexts.{cheapest_none}
use Rattle.wording.proofs.Lines.{cheapest_room, cheapest_written}
use Rattle.wording.proofs.cheapest_lines.Goals as goal

pub returns-then-minimal-eq0 : goal.returns-then-minimal-eq0
returns-then-minimal-eq0 c = rw (c.if-minimal-eq0.true, cheapest_none) (writes-none _ _)

pub number_line-requires : goal.number_line-requires
number_line-requires c = search cheapest_room

pub returns : goal.returns
returns c = search cheapest_written
