-- `Interpretation::newly_decided` meets its contract: the atoms counted are those that were open before. Assumes
-- nothing.
use mathlib.Core.Path.{◌∙◌}
use native.Mathlib.Omega.{arith}
use Rattle.logic.proofs.Interpretations.{Good}
use Rattle.logic.proofs.Decided.{newly-counted}
use Rattle.logic.proofs.interpretation.Interpretation.newly_decided.Goals as goal

pub returns : goal.returns
returns c =
    let g : Good c.args.self = record { trues_fit = omega arith; falses_fit = omega arith; disjoint = c.requires } in
    c.decided.ensures ∙ newly-counted c.args.before c.args.self (omega arith) (omega arith) g
