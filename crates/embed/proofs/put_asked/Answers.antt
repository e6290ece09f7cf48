-- `embed::put_asked` meets its contract: the verdict numbers, and six words behind them. Assumes nothing.
use native.Mathlib.Omega.{arith}
use Rattle.embed.proofs.Exports.{asked_put}
use Rattle.embed.proofs.put_asked.Goals as goal

pub returns-in-Ok : goal.returns-in-Ok
returns-in-Ok c =
    rw c.in-Ok.is (asked_put c.in-Ok.a c.args.answer.now (omega arith) c.put.ensures c.put-in-Ok.ensures)
