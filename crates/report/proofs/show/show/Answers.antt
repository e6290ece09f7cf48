-- `show` meets its contract: the text's length is known from writing it to a spare output, and the test on it decides.
-- Assumes nothing.
use Rattle.report.proofs.Showing.{report_short, report_written}
use Rattle.report.proofs.show.show.Goals as goal

pub returns-then-out-length : goal.returns-then-out-length
returns-then-out-length g c = search report_short

pub returns : goal.returns
returns g c = search report_written
