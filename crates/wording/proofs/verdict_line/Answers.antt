-- `wording::verdict_line` meets its contract, number by number. Assumes nothing.
use Rattle.wording.proofs.Lines.{verdict_room, verdict_written, open_room, open_written}
use Rattle.wording.proofs.verdict_line.Goals as goal

pub put_text-requires : goal.put_text-requires
put_text-requires c = search (verdict_room 0)

pub put_text-requires-in-1 : goal.put_text-requires-in-1
put_text-requires-in-1 c = search (verdict_room 1)

pub put_text-requires-in-2 : goal.put_text-requires-in-2
put_text-requires-in-2 c = search (verdict_room 2)

pub put_text-requires-in_default : goal.put_text-requires-in_default
put_text-requires-in_default c = search open_room

pub returns-in-0 : goal.returns-in-0
returns-in-0 c = search (verdict_written 0)

pub returns-in-1 : goal.returns-in-1
returns-in-1 c = search (verdict_written 1)

pub returns-in-2 : goal.returns-in-2
returns-in-2 c = search (verdict_written 2)

pub returns-in_default : goal.returns-in_default
returns-in_default c = search open_written
