-- `wording::put_abducible` meets its contract, digit by digit. Assumes nothing.
use Rattle.output.proofs.Laying.{writes-none}
use Rattle.output.proofs.FormTexts.{spaced_nil}
use Rattle.wording.proofs.Lines.{fact-room, fact-written, assumption-room, assumption-written}
use Rattle.wording.proofs.put_abducible.Goals as goal

pub returns-in-0 : goal.returns-in-0
returns-in-0 c = rw (c.in-0.is, spaced_nil) (writes-none _ _)

pub put_form-requires : goal.put_form-requires
put_form-requires c = search fact-room

pub returns-in-1 : goal.returns-in-1
returns-in-1 c = search fact-written

pub put_form-requires-in_default : goal.put_form-requires-in_default
put_form-requires-in_default c = search assumption-room

pub returns-in_default : goal.returns-in_default
returns-in_default c = search assumption-written
