-- The measure of `formula::formula_at` is the number of bytes left. Assumes nothing.
use Rattle.std.proofs.Common.{length, ◌-◌}
use Rattle.formulas.proofs.formula.+formula_at.Given as goal

abbrev pub decreases-formula_at : goal.decreases-formula_at
decreases-formula_at l = length l.l.now - l.at
