-- What the exported functions answer and leave in lent memory, on every input.
-- From: document 01, "What each operation refuses" ("a new table is held to 1 wherever it is lent"); document 02, [6]
-- (the decided atoms), [7] (prices, the lowest cost and its setting), [8] (writing a case back), [11] (a load).
--
-- Each answers the number of the refusal, 0 for none, and writes the rest of its answer to lent words. Where those
-- words, or those of a lent case record, are too few, the answer is 1 and nothing is touched. Otherwise a is what the
-- operation of the crate below answers, determined by its own contract.
--
--   ReadOut       line and the 23 words of the record, 24 words, and the five tables
--   SettleOut     the true atoms, the false atoms, the rounds and the number of decided atoms, four words
--   QuestionOut   16 verdict numbers, m, w, rounds, decided atoms, the lowest cost and its setting, 22 words, and the
--                 list and the work area
--   LayersOut     whether the case is layered, the number of entries and the 64 entries, 66 words
--   WriteOut      the length of the text, one word, and the output
--   ReportOut     the length of the text, one word, and the output
--   GenerateOut   the length of the text, one word, and the output
use Rattle.std.specs.Prelude.{◌≡◌, List, ℕ, ◌≤◌, ◌<◌, length, Result}
use Rattle.words.specs.Lists.{over}
use Rattle.refusals.specs.declared.Refusal.{Refusal}
use Rattle.refusals.specs.Refusal.{refused_as}
use Rattle.program.specs.declared.case.Case.{Case}
use Rattle.settle.specs.declared.settle.Settled.{Settled}
use Rattle.settle.specs.Operation.{SettledOne}
use Rattle.reader.specs.declared.read.Refused.{Refused}
use Rattle.store.specs.Lent.{Lent}
use Rattle.reader.specs.Answers.{refusal_in}
use Rattle.reader.specs.Operation.{ReadAs}
use Rattle.question.specs.declared.operation.Answer.{Answer}
use Rattle.question.specs.Operation.{Asked}
use Rattle.layering.specs.declared.answer.Layers.{Layers}
use Rattle.layering.specs.Operation.{Layering}
use Rattle.writing.specs.Operation.{WrittenAs}
use Rattle.report.specs.Operation.{Reported}
use Rattle.loading.specs.Operation.{Generated}
use Rattle.embed.specs.Words.{case_in, found_words, settled_words, asked_words, layers_words, length_words}

-- the file f, the tables t at entry and u at exit, the answer's words at entry and at exit
pub data ReadOut (f : List ℕ) (t u : Lent) (words : List ℕ) (r : ℕ) (wordsAfter : List ℕ) : Type 0 where
  short : length words < 24 → r ≡ 1 → u ≡ t → wordsAfter ≡ words → ReadOut f t u words r wordsAfter
  done : 24 ≤ length words → (a : Result Case Refused) → ReadAs f t u a → r ≡ refusal_in a
      → wordsAfter ≡ over (found_words a) words → ReadOut f t u words r wordsAfter

-- the case record's words, the tables, the setting, the answer's words at entry and at exit
pub data SettleOut (c cl co fo : List ℕ) (s : ℕ) (words : List ℕ) (r : ℕ) (wordsAfter : List ℕ) : Type 0 where
  short_record : length c < 23 → r ≡ 1 → wordsAfter ≡ words → SettleOut c cl co fo s words r wordsAfter
  short : length words < 4 → r ≡ 1 → wordsAfter ≡ words → SettleOut c cl co fo s words r wordsAfter
  done : 23 ≤ length c → 4 ≤ length words → (a : Result Settled Refusal) → SettledOne (case_in c) cl co fo s a
      → r ≡ refused_as a → wordsAfter ≡ over (settled_words a) words → SettleOut c cl co fo s words r wordsAfter

-- the case record's words, the tables, and at entry and at exit the list, the work area and the answer's words
pub data QuestionOut (c cl co fo pr list work words : List ℕ) (r : ℕ) (listAfter workAfter wordsAfter : List ℕ)
    : Type 0 where
  short_record : length c < 23 → r ≡ 1 → listAfter ≡ list → workAfter ≡ work → wordsAfter ≡ words
      → QuestionOut c cl co fo pr list work words r listAfter workAfter wordsAfter
  short : length words < 22 → r ≡ 1 → listAfter ≡ list → workAfter ≡ work → wordsAfter ≡ words
      → QuestionOut c cl co fo pr list work words r listAfter workAfter wordsAfter
  done : 23 ≤ length c → 22 ≤ length words → (a : Result Answer Refusal)
      → Asked (case_in c) cl co fo pr list work a listAfter workAfter → r ≡ refused_as a
      → wordsAfter ≡ over (asked_words a) words
      → QuestionOut c cl co fo pr list work words r listAfter workAfter wordsAfter

-- the case record's words, the tables, the answer's words at entry and at exit
pub data LayersOut (c cl co fo words : List ℕ) (r : ℕ) (wordsAfter : List ℕ) : Type 0 where
  short_record : length c < 23 → r ≡ 1 → wordsAfter ≡ words → LayersOut c cl co fo words r wordsAfter
  short : length words < 66 → r ≡ 1 → wordsAfter ≡ words → LayersOut c cl co fo words r wordsAfter
  done : 23 ≤ length c → 66 ≤ length words → (a : Result Layers Refusal) → Layering (case_in c) cl co fo a
      → r ≡ refused_as a → wordsAfter ≡ over (layers_words a) words → LayersOut c cl co fo words r wordsAfter

-- the case record's words, the tables t, and at entry and at exit the output and the answer's words
pub data WriteOut (c : List ℕ) (t : Lent) (out words : List ℕ) (r : ℕ) (outAfter wordsAfter : List ℕ) : Type 0 where
  short_record : length c < 23 → r ≡ 1 → outAfter ≡ out → wordsAfter ≡ words
      → WriteOut c t out words r outAfter wordsAfter
  short : length words < 1 → r ≡ 1 → outAfter ≡ out → wordsAfter ≡ words → WriteOut c t out words r outAfter wordsAfter
  done : 23 ≤ length c → 1 ≤ length words → (a : Result ℕ Refusal) → WrittenAs (case_in c) t out a outAfter
      → r ≡ refused_as a → wordsAfter ≡ over (length_words a) words → WriteOut c t out words r outAfter wordsAfter

-- the file f, and at entry and at exit the output and the answer's words
pub data ReportOut (f out words : List ℕ) (r : ℕ) (outAfter wordsAfter : List ℕ) : Type 0 where
  short : length words < 1 → r ≡ 1 → outAfter ≡ out → wordsAfter ≡ words → ReportOut f out words r outAfter wordsAfter
  done : 1 ≤ length words → (a : Result ℕ Refusal) → Reported f out a outAfter → r ≡ refused_as a
      → wordsAfter ≡ over (length_words a) words → ReportOut f out words r outAfter wordsAfter

-- the seed s, n atoms, c clauses, and at entry and at exit the output and the answer's words
pub data GenerateOut (s n c : ℕ) (out words : List ℕ) (r : ℕ) (outAfter wordsAfter : List ℕ) : Type 0 where
  short : length words < 1 → r ≡ 1 → outAfter ≡ out → wordsAfter ≡ words
      → GenerateOut s n c out words r outAfter wordsAfter
  done : 1 ≤ length words → (a : Result ℕ Refusal) → Generated s n c out a outAfter → r ≡ refused_as a
      → wordsAfter ≡ over (length_words a) words → GenerateOut s n c out words r outAfter wordsAfter
