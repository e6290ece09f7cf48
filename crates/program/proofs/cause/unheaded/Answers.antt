-- `program::cause::unheaded` meets its contract, by the law `causes_masked`. Assumes nothing.
use Rattle.program.proofs.Causes.{causes_masked}
use Rattle.program.proofs.cause.unheaded.Goals as goal

pub returns : goal.returns
returns c =
    let a = c.args.atoms in
    causes_masked a.count a.all c.args.heads a.few a.each c.ranges.heads.fits
