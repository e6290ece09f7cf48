-- `program::sound::formula_sound` meets its contract: the nodes of formula q are the first in part q. Assumes nothing.
use mathlib.Core.Path.{ap, ◌∙◌}
use native.Mathlib.Omega.{arith}
use Rattle.logic.specs.Nodes.{one_formula}
use Rattle.program.proofs.Soundness.{formula-fits, nodes-lent}
use Rattle.program.proofs.sound.formula_sound.Goals as goal

pub returns-then-n-le-NODES : goal.returns-then-n-le-NODES
returns-then-n-le-NODES c =
    let a = c.args in
    c.one_formula.ensures
    ∙ ap (one_formula a.atoms) (nodes-lent a.nodes.now a.formula.now a.q)
    ∙ formula-fits a.atoms a.nodes.now a.formula.now a.q (omega arith)
