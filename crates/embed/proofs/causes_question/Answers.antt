-- `embed::causes_question` meets its contract: words are too few, or what `ask` answers is put to words.
-- Assumes nothing.
use native.Mathlib.Omega.{arith}
use Rattle.embed.proofs.Exports.{question_done}
use Rattle.embed.proofs.causes_question.Goals as goal

pub returns : goal.returns
returns c =
    question_done c.case_in.ensures (omega arith) (omega arith) c.ask-asked.ensures
    c.number.ensures c.put_asked.ensures
