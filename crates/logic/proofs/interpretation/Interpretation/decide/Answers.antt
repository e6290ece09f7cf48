-- `Interpretation::decide` meets its contract, by the law `assigned_words`. Assumes nothing.
use native.Mathlib.Omega.{arith}
use Rattle.logic.proofs.Interpretations.{Good, assigned_words}
use Rattle.logic.proofs.interpretation.Interpretation.decide.Goals as goal

pub returns : goal.returns
returns c =
    let g : Good c.args.self = record { trues_fit = omega arith; falses_fit = omega arith; disjoint = c.requires.1 } in
    assigned_words _ _ _ g c.requires.0 (rw (c.is_true.ensures, c.without.ensures) at c.with_bit.ensures)
    (rw (c.is_false.ensures, c.without-2.ensures) at c.with_bit-2.ensures)
