-- `read::check_end` meets its contract: a law for each way through the tests. Assumes nothing.
use borrow.Author.Rules.{rules}
use Rattle.reader.proofs.EndChecks.{end_eleven, end_twelve, end_none}
use Rattle.reader.proofs.read.check_end.Goals as goal

pub returns-then-c-eq0 : goal.returns-then-c-eq0
returns-then-c-eq0 c = search (rules, end_eleven)

pub returns-then-not-settings_few : goal.returns-then-not-settings_few
returns-then-not-settings_few c = search (rules, end_twelve)

pub returns : goal.returns
returns c = search (rules, end_none)
