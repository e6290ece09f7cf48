-- `wording::refusal_text` meets its contract: the line has two numbers, and room for 20 digits each.
-- Assumes nothing.
use Rattle.wording.proofs.Lines.{refusal-room, refusal-written}
use Rattle.wording.proofs.refusal_text.Goals as goal

pub pair_line-requires : goal.pair_line-requires
pair_line-requires c = search refusal-room

pub returns : goal.returns
returns c = search refusal-written
