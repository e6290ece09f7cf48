-- `value` meets its contract: the nodes of query q are the first in part q. Assumes nothing.
use mathlib.Core.Path.{◌≡◌, subst}
use mathlib.Core.Bool.{true}
use mathlib.Core.List.{List}
use Prim.Native.Nat.{ℕ}
use Rattle.logic.specs.Formula.{value_of}
use Rattle.logic.specs.Nodes.{one_formula, formula_of}
use Rattle.logic.specs.Interpretation.{value_at}
use Rattle.program.proofs.Soundness.{nodes-lent}
use Rattle.verdict.proofs.query.Queries.value.Goals as goal

pub returns : goal.returns
returns c =
    let a = c.args in
    λ n.
    subst
    (λ (l : List ℕ). one_formula n l ≡ true → c.formula_value.result ≡ value_of (value_at a.i) (formula_of l))
    (nodes-lent a.self.nodes.now a.self.formula.now a.q) (c.formula_value.ensures n)
