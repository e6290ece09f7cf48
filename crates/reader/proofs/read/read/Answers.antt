-- `read::read` meets its contract on every input: the early refusals keep the tables; where there is none, the lines
-- are read. Assumes nothing.
use mathlib.Core.Path.{refl}
use Rattle.std.proofs.lemmas.Result.{err_from_is_err_and}
use Rattle.reader.proofs.EarlyRefusals.{early-passed, read-refused, read_through}
use Rattle.reader.proofs.read.read.Goals as goal

pub returns-in_err-check_start : goal.returns-in_err-check_start
returns-in_err-check_start c =
    let p = err_from_is_err_and c.from_residual.result c.from_residual.ensures.1 in
    rw (p.1, p.2) (read-refused _ _ c.in_err-check_start.ensures)

pub read_lines-requires : goal.read_lines-requires
read_lines-requires c = early-passed _ _ c.in_ok-check_start.ensures refl

pub returns : goal.returns
returns c = read_through _ _ c.in_ok-check_start.ensures refl c.read_lines.ensures
