-- `formula_nodes::node_at` meets its contract. Assumes nothing.
use mathlib.Core.Path.{◌∙◌}
use native.Mathlib.Omega.{arith}
use Rattle.store.proofs.NodeLaws.{row-few, node_or_none}
use Rattle.store.proofs.formula_nodes.node_at.Goals as goal

pub returns-then-form : goal.returns-then-form
returns-then-form c = rw c.if-form.true (c.unwrap_or.ensures ∙ node_or_none c.args.w.now _ c.node_of.ensures)

pub overflow_cast-result : goal.overflow_cast-result
overflow_cast-result c = omega (arith, row-few _ _ _ c.atom_of.ensures)

pub returns-else-form : goal.returns-else-form
returns-else-form c = rw (c.if-form.false, c.atom_of.ensures)
