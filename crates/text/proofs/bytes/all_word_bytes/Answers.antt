-- `text::bytes::all_word_bytes` meets its contract, by what `all` says of a list. Assumes nothing.
use Rattle.std.proofs.Common.{rules}
use Rattle.std.proofs.lemmas.Iterator.{YieldsList-from_slice}
use Rattle.std.proofs.lemmas.Iterator.Search.{all_from_yields_List}
use Rattle.text.specs.Bytes.{is_word_byte}
use Rattle.text.proofs.ByteLaws.{all_listed}
use Rattle.text.proofs.bytes.all_word_bytes.Goals as goal

pub returns : goal.returns
returns c =
    let e = all_from_yields_List is_word_byte _ _ _ c.all.ensures.ran (YieldsList-from_slice c.args.l.now cc)
    (λ x b q k. (search rules, search rules)) in
    rw all_listed e
