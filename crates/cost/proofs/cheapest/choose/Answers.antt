-- `choose` meets its contract: each minimal setting in turn is weighed against the cheapest. Assumes nothing.
use mathlib.Core.Path.{◌≡◌, sym, ◌∙◌}
use Rattle.cost.proofs.Least.{chosen-free}
use Rattle.cost.proofs.Choosing.{choosing_next, choosing_end}
use Rattle.cost.proofs.cheapest.choose.Goals as goal
use Rattle.cost.proofs.cheapest.choose.Goals.{in_default-via-in-None-1, in_default-via-in-Some+else-k-eq0}

pub returns : goal.returns
returns c = λ causes l f k. chosen-free _ l _ (sym c.in-Some.is ∙ k) c.if-k-eq0.true

pub loop-j-preserved : goal.loop-j-preserved
loop-j-preserved c =
    rw c.in-Some-j.ensures.steps.1
    (choosing_next c.loop-j.invariant c.in-Some-j.ensures.steps.0 c.cost_in-cost.ensures c.cheaper.ensures)

pub returns-2 : goal.returns-2
returns-2 c =
    let same : c.in_default.best ≡ c.args.best =
    elim c.in_default.branch [
      | in_default-via-in-None-1 w ↦ w.best-is
      | in_default-via-in-Some+else-k-eq0 w ↦ w.best-is ∙ sym w.in-Some.is
    ] in
    λ causes l f k. choosing_end c.loop-j.invariant c.in-None.ensures.steps.0 causes l f (same ∙ k)
