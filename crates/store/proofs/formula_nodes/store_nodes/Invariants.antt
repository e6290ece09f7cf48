-- `formula_nodes::store_nodes` meets its contract. The invariant is `Storing`: the nodes of the words from place i on
-- are left to store. The measure is what is left of the line. Assumes nothing.
use mathlib.Core.Path.{◌≡◌}
use mathlib.Core.Bool.{false}
use Prim.Native.Nat.{◌-◌}
use lib.ListN.{length, drop}
use Rattle.text.specs.Tokens.{tokens}
use Rattle.names.specs.Row.{row_of}
use Rattle.store.specs.Nodes.{nodes_from, node_table, with_nodes}
use Rattle.store.proofs.NodeLaws.{Storing}
use Rattle.store.proofs.formula_nodes.store_nodes.Given as goal

abbrev pub invariant-loop-next : goal.invariant-loop-next
invariant-loop-next l =
    (length l.nodes ≡ length l.initial.nodes)
    × Storing (row_of l.names l.count)
    (with_nodes (node_table 0 l.initial.nodes) (nodes_from (row_of l.names l.count) false (tokens (drop l.at l.l))))
    l.l l.i l.opened l.n l.nodes

abbrev pub decreases-loop-next : goal.decreases-loop-next
decreases-loop-next l = length l.l - l.i
