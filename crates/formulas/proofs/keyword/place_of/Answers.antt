-- `keyword::place_of` meets its contract, by what `position` says of a list. Assumes nothing.
use Rattle.std.proofs.Common.{rules}
use Rattle.std.proofs.lemmas.Iterator.{YieldsList-from_slice}
use Rattle.std.proofs.lemmas.Iterator.Search.{position_from_yields_List}
use Rattle.formulas.proofs.Keywords.{is, place-found}
use Rattle.formulas.proofs.keyword.place_of.Goals as goal

pub returns : goal.returns
returns c =
    let e = position_from_yields_List (is c.args.w.now) _ _ _ c.position.ensures.ran
    (YieldsList-from_slice c.args.words.now cc) (λ v b q k. (search rules, search rules)) in
    place-found c.args.words.now c.args.w.now e
