-- `clause::load_name` meets its contract: the letter, and the number behind it. Assumes nothing.
use Rattle.loading.proofs.NameTexts.{digits-room, name-short, name-spelled}
use Rattle.loading.proofs.clause.load_name.Goals as goal

pub put_decimal-end-requires : goal.put_decimal-end-requires
put_decimal-end-requires c = digits-room _ _ c.put-number.ensures

pub shared_ref_as_front-result : goal.shared_ref_as_front-result
shared_ref_as_front-result c = name-short _ _ c.put-number.ensures c.put_decimal-end.ensures

pub returns : goal.returns
returns c = name-spelled _ _ c.put-number.ensures c.put_decimal-end.ensures c.told-spelled
