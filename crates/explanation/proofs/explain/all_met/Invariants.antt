-- `all_met` meets its contract: the constraints are taken one by one (`Passing`). Assumes nothing.
use Rattle.explanation.proofs.Explaining.{Passing}
use Rattle.explanation.proofs.explain.all_met.Given as goal

abbrev pub invariant-loop-k : goal.invariant-loop-k
invariant-loop-k l = Passing l.w l.constraints l.p.trues l.p.falses l.n l.ok l.k
