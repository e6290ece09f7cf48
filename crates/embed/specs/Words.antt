-- Records and answers as words, for callers in C and Rust.
-- From: document 01, "Case tables and sound cases" ("A case record, by value, holds the counts"); document 02, [6] (the
-- decided atoms), [7] (the lowest cost), [10] (the edition).
--
--   case_words c       the 23 words of a case record
--   case_in w          the case record in the first 23 of the words w
--   found_words r      the line of a refusal of reading and the words of the case record, 24 words
--   settled_words r    the four words of what settling answers
--   asked_words r      the 22 words of what the question answers
--   layers_words r     the 66 words of what layering answers
--   length_words r     the word of what writing a text answers
--
-- Each word of an answer is 0 where it is a refusal, but for the line of a refusal of reading.
use Rattle.std.specs.Prelude.{List, [], ◌∷◌, ◌++◌, ℕ, get_or, take, drop, replicate, Result, Ok, Err}
use Rattle.refusals.specs.declared.Refusal.{Refusal}
use Rattle.program.specs.declared.case.Case.{Case}
use Rattle.reader.specs.declared.read.Refused.{Refused}
use Rattle.settle.specs.declared.settle.Settled.{Settled}
use Rattle.question.specs.declared.operation.Answer.{Answer}
use Rattle.layering.specs.declared.answer.Layers.{Layers}

abbrev pub case_words : Case → List ℕ
case_words c =
    c.atoms ∷ c.clauses ∷ c.constraints ∷ c.formulas ∷ c.plain ∷ c.negated ∷ (c.nodes ++ (c.edition ∷ []))

abbrev pub case_in : List ℕ → Case
case_in w = record {
  atoms = get_or w 0 0;
  clauses = get_or w 1 0;
  constraints = get_or w 2 0;
  formulas = get_or w 3 0;
  plain = get_or w 4 0;
  negated = get_or w 5 0;
  nodes = take 16 (drop 6 w);
  edition = get_or w 22 0;
}

abbrev pub found_words : Result Case Refused → List ℕ
found_words (Ok c) = 0 ∷ case_words c
found_words (Err f) = f.line ∷ replicate 23 0

abbrev pub settled_words : Result Settled Refusal → List ℕ
settled_words (Ok a) = a.interpretation.trues ∷ a.interpretation.falses ∷ a.rounds ∷ a.decided ∷ []
settled_words (Err e) = replicate 4 0

abbrev pub asked_words : Result Answer Refusal → List ℕ
asked_words (Ok a) = a.verdicts ++ (a.minimal ∷ a.written ∷ a.rounds ∷ a.decided ∷ a.cost ∷ a.cheapest ∷ [])
asked_words (Err e) = replicate 22 0

-- 1 in front where the case is layered
abbrev pub layers_words : Result Layers Refusal → List ℕ
layers_words (Ok (Layers.Layered a)) = 1 ∷ a.count ∷ a.entries
layers_words (Ok (Layers.Ring a)) = 0 ∷ a.count ∷ a.entries
layers_words (Err e) = replicate 66 0

abbrev pub length_words : Result ℕ Refusal → List ℕ
length_words (Ok n) = n ∷ []
length_words (Err e) = 0 ∷ []
