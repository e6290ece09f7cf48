-- `explaining` meets its contract: the observations as one body, then the constraints. Assumes nothing.
use Rattle.explanation.proofs.Explaining.{explaining_is}
use Rattle.explanation.proofs.explain.explaining.Goals as goal

pub returns : goal.returns
returns c =
    let a = c.args in
    explaining_is _ _ a.p.now.trues a.p.now.falses _ _ c.body-seen.ensures c.all_met.ensures
