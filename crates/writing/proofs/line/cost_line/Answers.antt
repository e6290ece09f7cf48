-- `line::cost_line` meets its contract: its word, the name, two numbers, and its end. Assumes nothing.
use mathlib.Core.List.{[], ◌∷◌}
use Rattle.text.specs.Tokens.{Token}
use Rattle.spelling.proofs.Pens.{spells-both}
use Rattle.writing.proofs.LineTexts.{begin_room, part_room, close_room, line-written, first-room}
use Rattle.writing.proofs.LineTexts.{second-room, cost-form}
use Rattle.writing.proofs.line.cost_line.Goals as goal

pub begin-p-requires : goal.begin-p-requires
begin-p-requires c = begin_room (cost-form _ _ _) c.args.g c.requires

pub word-q-requires : goal.word-q-requires
word-q-requires c =
    first-room (Token.word _ ∷ []) _ _ (part_room (cost-form _ _ _) c.args.g c.begin-p.ensures c.requires)

pub number-s-requires : goal.number-s-requires
number-s-requires c =
    first-room (Token.word _ ∷ []) _ _
    (second-room (Token.word _ ∷ []) _ _
    (part_room (cost-form _ _ _) c.args.g c.begin-p.ensures c.requires) c.word-q.ensures)

pub number-u-requires : goal.number-u-requires
number-u-requires c =
    second-room (Token.word _ ∷ []) _ _
    (second-room (Token.word _ ∷ []) _ _
    (part_room (cost-form _ _ _) c.args.g c.begin-p.ensures c.requires) c.word-q.ensures) c.number-s.ensures

pub close-requires : goal.close-requires
close-requires c =
    close_room (cost-form _ _ _) c.args.g c.begin-p.ensures
    (spells-both c.word-q.ensures _ (spells-both c.number-s.ensures _ c.number-u.ensures)) c.requires

pub returns : goal.returns
returns c =
    line-written (cost-form _ _ _) c.args.g c.begin-p.ensures
    (spells-both c.word-q.ensures _ (spells-both c.number-s.ensures _ c.number-u.ensures)) c.close.ensures
