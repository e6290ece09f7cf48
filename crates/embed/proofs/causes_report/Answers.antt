-- `embed::causes_report` meets its contract: the words are too few, or what `report` answers is put to words.
-- Assumes nothing.
use native.Mathlib.Omega.{arith}
use Rattle.embed.specs.Operation.{ReportOut}
use Rattle.embed.proofs.causes_report.Goals as goal

pub returns : goal.returns
returns c = ReportOut.done (omega arith) _ c.report-written.ensures c.number.ensures c.put_length.ensures
