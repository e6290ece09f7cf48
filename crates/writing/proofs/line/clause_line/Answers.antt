-- `line::clause_line` meets its contract: its word, the head, the literals, and its end. Assumes nothing.
use mathlib.Core.List.{[], ◌∷◌}
use native.Mathlib.Omega.{arith}
use Rattle.text.specs.Tokens.{Token}
use Rattle.spelling.proofs.Pens.{spells-both}
use Rattle.writing.proofs.LineTexts.{begin_room, part_room, close_room, line-written, first-room}
use Rattle.writing.proofs.LineTexts.{second-room, clause-form}
use Rattle.writing.proofs.line.clause_line.Goals as goal

pub begin_clause-p-requires : goal.begin_clause-p-requires
begin_clause-p-requires c = (c.requires.0, begin_room (clause-form _ _ _) c.args.g c.requires.2)

pub name-q-requires : goal.name-q-requires
name-q-requires c = (
  omega arith,
  first-room (Token.word _ ∷ []) _ _
      (part_room (clause-form _ _ _) c.args.g c.begin_clause-p.ensures c.requires.2),
)

pub body-s-requires : goal.body-s-requires
body-s-requires c = (
  c.requires.1,
  second-room (Token.word _ ∷ []) _ _
      (part_room (clause-form _ _ _) c.args.g c.begin_clause-p.ensures c.requires.2) c.name-q.ensures,
)

pub close-requires : goal.close-requires
close-requires c =
    close_room (clause-form _ _ _) c.args.g c.begin_clause-p.ensures
    (spells-both c.name-q.ensures _ c.body-s.ensures) c.requires.2

pub returns : goal.returns
returns c =
    line-written (clause-form _ _ _) c.args.g c.begin_clause-p.ensures
    (spells-both c.name-q.ensures _ c.body-s.ensures) c.close.ensures
