-- `text::bytes::all_allowed` meets its contract, by what `all` says of a list. Assumes nothing.
use Rattle.std.proofs.Common.{rules}
use Rattle.std.proofs.lemmas.Iterator.{YieldsList-from_slice}
use Rattle.std.proofs.lemmas.Iterator.Search.{all_from_yields_List}
use Rattle.text.specs.Bytes.{is_allowed}
use Rattle.text.proofs.ByteLaws.{all_listed}
use Rattle.text.proofs.bytes.all_allowed.Goals as goal

pub returns : goal.returns
returns c =
    let e = all_from_yields_List is_allowed _ _ _ c.all.ensures.ran (YieldsList-from_slice c.args.l.now cc)
    (λ x b q k. (search rules, search rules)) in
    rw all_listed e
