-- `clause::drawn_clause` meets its contract: its word, the head, the literals, and its end, each as it is drawn.
-- Assumes nothing.
use mathlib.Core.Path.{◌≡◌, ◌∙◌}
use mathlib.Core.List.{[], ◌∷◌}
use Prim.Native.Nat.{◌%◌}
use lib.ListN.{get_or}
use Rattle.text.specs.Tokens.{Token}
use Rattle.grammar.specs.Line.{line_words, body_tokens}
use Rattle.spelling.proofs.Pens.{spells-both}
use Rattle.writing.specs.Lines.{line_text}
use Rattle.writing.proofs.LineTexts.{FormLine, begin_room, part_room, close_room, line-written}
use Rattle.writing.proofs.LineTexts.{first-room, second-room}
use Rattle.loading.specs.Load.{load_name, literals_drawn, kind_drawn, clause_drawn}
use Rattle.loading.proofs.Clauses.{kind-is, kind-within, drawn_form, behind-clause}
use Rattle.loading.proofs.clause.drawn_clause.Goals as goal
use Rattle.loading.proofs.clause.drawn_clause.Goals.{After-literal_count-count}

-- ---- behind the draws before the literals
kind : (c : After-literal_count-count) → c.min-kind.result ≡ kind_drawn c.args.source.now.state
kind c = c.min-kind.ensures ∙ kind-is _ c.draw.ensures.stepped c.draw-2.ensures.stepped c.draw-2.ensures.drawn

form : (c : After-literal_count-count) → let n = c.args.n in
    let count = c.literal_count-count in
    FormLine (line_text (clause_drawn n c.args.source.now.state)) (get_or line_words c.min-kind.result [])
    (Token.word (load_name (c.draw.result % n)) ∷ body_tokens (literals_drawn n count.new.source.state count.result))
form c =
    let count = c.literal_count-count.ensures in
    drawn_form _ c.draw.ensures.stepped c.draw-2.ensures.stepped c.draw-2.ensures.drawn (kind c) count.counted
    count.drawn c.args.n c.draw.ensures.drawn

-- ---- the goals
pub begin_clause-p-requires : goal.begin_clause-p-requires
begin_clause-p-requires c =
    let before = (goal.at.begin_clause-p-requires c).After-literal_count-count in (
      kind-within _ c.draw.ensures.stepped c.draw-2.ensures.stepped c.draw-2.ensures.drawn (kind before)
          c.literal_count-count.ensures.counted c.literal_count-count.ensures.drawn,
      begin_room (form before) c.args.g c.requires.1,
    )

pub word-q-requires : goal.word-q-requires
word-q-requires c =
    let f = form (goal.at.word-q-requires c).After-literal_count-count in
    rw c.load_name.ensures
    (first-room (Token.word _ ∷ []) _ _ (part_room f c.args.g c.begin_clause-p.ensures c.requires.1))

pub drawn_literals-s-requires : goal.drawn_literals-s-requires
drawn_literals-s-requires c =
    let f = form (goal.at.drawn_literals-s-requires c).After-literal_count-count in (
      c.requires.0,
      second-room (Token.word _ ∷ []) _ _ (part_room f c.args.g c.begin_clause-p.ensures c.requires.1)
          (rw c.load_name.ensures at c.word-q.ensures),
    )

pub close-requires : goal.close-requires
close-requires c =
    close_room (form (goal.at.close-requires c).After-literal_count-count) c.args.g c.begin_clause-p.ensures
    (spells-both (rw c.load_name.ensures at c.word-q.ensures) _ c.drawn_literals-s.ensures.written) c.requires.1

pub returns : goal.returns
returns c =
    let before = (goal.at.returns c).After-literal_count-count in
    record {
      written =
          line-written (form before) c.args.g c.begin_clause-p.ensures
          (spells-both (rw c.load_name.ensures at c.word-q.ensures) _ c.drawn_literals-s.ensures.written)
          c.close.ensures;
      drawn =
          behind-clause _ c.draw.ensures.stepped c.draw-2.ensures.stepped c.draw-2.ensures.drawn (kind before)
          c.literal_count-count.ensures.counted c.literal_count-count.ensures.drawn c.drawn_literals-s.ensures.drawn;
    }
