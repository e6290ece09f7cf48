-- `embed::put_nodes` meets its contract: the node counts, and the edition behind them. Assumes nothing.
use native.Mathlib.Omega.{arith}
use Rattle.embed.proofs.Exports.{nodes_put}
use Rattle.embed.proofs.put_nodes.Goals as goal

pub returns : goal.returns
returns c =
    nodes_put c.args.c c.args.answer.now (omega arith) (rw c.words_of-nodes.ensures at c.put.ensures) c.put-2.ensures
