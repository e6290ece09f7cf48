-- Laws of what an operation answers to a case record in words, and of its answer put to words. Assumes nothing.
use mathlib.Core.Path.{◌≡◌}
use mathlib.Core.List.{List, [], ◌∷◌, ◌++◌}
use Prim.Native.Nat.{ℕ, ◌-◌, ◌≤◌}
use borrow.Rule.Slice.PartMut.{mid_of, put_mid}
use lib.ListN.{length}
use Rattle.std.specs.Prelude.{Result, Ok}
use Rattle.words.specs.Lists.{over}
use Rattle.refusals.specs.declared.Refusal.{Refusal}
use Rattle.refusals.specs.Refusal.{refused_as}
use Rattle.program.specs.declared.case.Case.{Case}
use Rattle.store.specs.Lent.{Lent}
use Rattle.settle.specs.declared.settle.Settled.{Settled}
use Rattle.settle.specs.Operation.{SettledOne}
use Rattle.question.specs.declared.operation.Answer.{Answer}
use Rattle.question.specs.Operation.{Asked}
use Rattle.layering.specs.declared.answer.Layers.{Layers}
use Rattle.layering.specs.Operation.{Layering}
use Rattle.writing.specs.Operation.{WrittenAs}
use Rattle.embed.specs.Words.{case_in, settled_words, asked_words, layers_words, length_words}
use Rattle.embed.specs.Operation.{SettleOut, QuestionOut, LayersOut, WriteOut}
use Rattle.embed.proofs.Putting.{over-behind}

-- the words of an answer, put in two parts
pub nodes_put : (c : Case) (old : List ℕ) {mid back : List ℕ} → 16 ≡ length c.nodes → mid ≡ over c.nodes old
    → back ≡ over (c.edition ∷ []) (mid_of 16 (length mid - 16) mid)
    → put_mid 16 (length mid - 16) mid back ≡ over (c.nodes ++ (c.edition ∷ [])) old
nodes_put c old = over-behind c.nodes (c.edition ∷ []) old

pub asked_put : (a : Answer) (old : List ℕ) {mid back : List ℕ} → 16 ≡ length a.verdicts
    → mid ≡ over a.verdicts old
    → back ≡ over (a.minimal ∷ a.written ∷ a.rounds ∷ a.decided ∷ a.cost ∷ a.cheapest ∷ [])
    (mid_of 16 (length mid - 16) mid)
    → put_mid 16 (length mid - 16) mid back ≡ over (asked_words (Ok a)) old
asked_put a old = over-behind a.verdicts _ old

-- k is the case record in the words c, and r the number of the answer
module _ {c : List ℕ} {k : Case} (e : k ≡ case_in c) (l : 23 ≤ length c) {words wordsAfter : List ℕ} {r : ℕ} where
  pub settle_done : {cl co fo : List ℕ} {s : ℕ} {a : Result Settled Refusal} → 4 ≤ length words
      → SettledOne k cl co fo s a → r ≡ refused_as a → wordsAfter ≡ over (settled_words a) words
      → SettleOut c cl co fo s words r wordsAfter
  settle_done m h n o = SettleOut.done l m _ (rw e at h) n o

  pub question_done : {cl co fo pr list work listAfter workAfter : List ℕ} {a : Result Answer Refusal}
      → 22 ≤ length words → Asked k cl co fo pr list work a listAfter workAfter → r ≡ refused_as a
      → wordsAfter ≡ over (asked_words a) words
      → QuestionOut c cl co fo pr list work words r listAfter workAfter wordsAfter
  question_done m h n o = QuestionOut.done l m _ (rw e at h) n o

  pub layers_done : {cl co fo : List ℕ} {a : Result Layers Refusal} → 66 ≤ length words → Layering k cl co fo a
      → r ≡ refused_as a → wordsAfter ≡ over (layers_words a) words
      → LayersOut c cl co fo words r wordsAfter
  layers_done m h n o = LayersOut.done l m _ (rw e at h) n o

  pub write_done : {t : Lent} {out outAfter : List ℕ} {a : Result ℕ Refusal} → 1 ≤ length words
      → WrittenAs k t out a outAfter → r ≡ refused_as a → wordsAfter ≡ over (length_words a) words
      → WriteOut c t out words r outAfter wordsAfter
  write_done m h n o = WriteOut.done l m _ (rw e at h) n o
