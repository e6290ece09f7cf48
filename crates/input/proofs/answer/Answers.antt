-- `answer`: what is read is answered, and what is written is the text. Assumes nothing.
use Rattle.std.proofs.Common.{rules}
use Rattle.input.proofs.Answering.{answered}
use Rattle.input.proofs.answer.Goals as goal

pub returns : goal.returns
returns g c =
    let r = c.in_ok-n.ensures in
    let w = c.write.ensures in
    answered g.P.Operation.is_text g.met.P.Operation.cut c.in_ok-n.field-0.count c.read_input.new.buf (search rules) w.0
    w.1 _ _ _ _ (r.1, r.2) _ w.2 _ c.map_err.ensures.cases
