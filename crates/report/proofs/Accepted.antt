-- What is known of an accepted file: its case is sound, its names are names, and its question is answered. Assumes
-- nothing.
use mathlib.Core.Path.{◌≡◌, refl, ap, ◌∙◌}
use mathlib.Core.Bool.{true}
use mathlib.Core.List.{List, [], ◌++◌}
use mathlib.Core.Logic.{⊎_elim}
use Prim.Native.Nat.{ℕ, ◌-◌, ◌*◌, ◌^◌, ◌≤◌, ◌<◌, min}
use native.Mathlib.Nat.{mul-le-mul}
use native.Mathlib.Omega.{arith}
use lib.ListN.{length, take, drop, length-take, length-append, length-map}
use lib.Seq.{take_all, take-length, take_at, length-take-le}
use Rattle.words.specs.Lists.{list_of}
use Rattle.words.proofs.Tests.{lt-or-le}
use Rattle.logic.specs.Nodes.{formula_of}
use Rattle.table.specs.Filled.{padded}
use Rattle.table.proofs.Filled.{filled-exact, padded-length, padded-split}
use Rattle.program.specs.Case.{clause_size, constraint_size, formula_size, name_size, price_size, tables_full, nodes_of}
use Rattle.program.specs.Sound.{sound}
use Rattle.program.specs.declared.cause.Causes.{Causes}
use Rattle.program.proofs.Soundness.{sound-full, sound-atoms, sound-formulas, sound-settings}
use Rattle.names.specs.Names.{rows_of}
use Rattle.names.specs.Row.{name_in}
use Rattle.names.specs.Held.{Named}
use Rattle.names.proofs.RowNames.{every-named, table-name}
use Rattle.names.proofs.Short.{no_zero}
use Rattle.std.specs.Prelude.{Result, Ok, Err, IsOk}
use Rattle.refusals.specs.declared.Refusal.{Refusal}
use Rattle.refusals.proofs.Numbers.{number_some}
use Rattle.question.specs.declared.operation.Answer.{Answer}
use Rattle.question.specs.Operation.{settings_in, choices_in, question_refusal, answer_in, Asked}
use Rattle.question.proofs.Answers.{lent-full, refusal-none}
use Rattle.verdict.specs.Walk.{verdict_number}
use Rattle.verdict.proofs.Counting.{minimals-le}
use Rattle.verdict.proofs.Verdicts.{verdicts_length}
use Rattle.question.proofs.Theorems.{rounds_bounded, decided_bounded}
use Rattle.store.specs.Lent.{Lent, lent, filled_with}
use Rattle.store.specs.Prices.{prices_of}
use Rattle.store.specs.Saying.{Said}
use Rattle.store.specs.Tables.{clause_words, constraint_words, formula_parts, words_of, case_said}
use Rattle.store.specs.Held.{Long}
use Rattle.checks.proofs.Naming.{name-bytes, name-short}
use Rattle.reader.specs.Reading.{Outcome, read_file}
use Rattle.reader.specs.Operation.{tables_fit}
use Rattle.reader.specs.Contents.{file_content}
use Rattle.reader.proofs.FileSays.{says}
use Rattle.reader.proofs.Theorems.{accepted-sound, accepted-names}
use Rattle.wording.specs.Text.{answer_text}
use Rattle.report.specs.Report.{clause_table, constraint_table, formula_table, price_table, causes_said, judge_in}
use Rattle.report.specs.Report.{minimals_of}
use Rattle.report.specs.Report.{totals_of, shown_of, verdicts_in, verdict_numbers, name_of, said_text, list_length}
use Rattle.wording.proofs.Naming.{answer_alike}
use Rattle.wording.proofs.Lengths.{answer-length, Short}

-- A list whose first slots, as many as there are, are written

front-take : (n : ℕ) (l : List ℕ) → take (min (length l) n) l ≡ take n l
front-take n l =
    ⊎_elim
    (λ (h : n < length l). let e : min (length l) n ≡ n = omega arith in rw e)
    (λ (h : length l ≤ n). let e : min (length l) n ≡ length l = omega arith in rw (e, take-length l, take_all n l h))
    (lt-or-le n (length l))

module _ (l old : List ℕ) (n : ℕ) where
  abbrev used : ℕ
  used = min (length l) n

  front_length : length (take used l) ≡ used
  front_length = length-take-le used l (omega arith)

  front-written : take used (take used l ++ drop used old) ≡ take n l
  front-written = take_at (take used l) (drop used old) used front_length ∙ front-take n l

  front_fits : length old ≡ n → used ≤ length (take used l ++ drop used old)
  front_fits h = omega (arith, length-append (take used l) (drop used old), front_length)

-- An accepted file

-- tables of zeros, exactly of their sizes
zeros : Lent
zeros =
    lent (padded clause_size []) (padded constraint_size []) (padded formula_size []) (padded name_size [])
    (padded price_size [])

zeros_fit : tables_fit zeros ≡ true
unfolding zeros tables_fit tables_full padded
zeros_fit = refl

zeros-long : Long zeros
unfolding zeros
zeros-long = record {
  clauses-long = omega (arith, padded-length clause_size []);
  constraints-long = omega (arith, padded-length constraint_size []);
  formula-long = omega (arith, padded-length formula_size []);
  names-long = omega (arith, padded-length name_size []);
  prices-long = omega (arith, padded-length price_size []);
}

numbers-length : (st : Said) → length (verdict_numbers st) ≡ length st.queries
numbers-length st = length-map (verdicts_in st) verdict_number ∙ verdicts_length (judge_in st) (minimals_of st)

module _ (f : List ℕ) (st : Said) (e : read_file f ≡ Outcome.case st) where
  pub said-sound : sound (case_said st) (clause_table st) (constraint_table st) (formula_table st) ≡ true
  unfolding zeros
  said-sound =
      rw (
        filled-exact clause_size (clause_words st.clauses) (padded clause_size []) (padded-length clause_size []),
        filled-exact constraint_size (constraint_words st.constraints) (padded constraint_size [])
            (padded-length constraint_size []),
        filled-exact formula_size (formula_parts st.queries) (padded formula_size []) (padded-length formula_size []),
      )
      at (accepted-sound f st zeros zeros_fit e)

  -- the formulas of the formula table
  pub said-formulas : list_of (length st.queries) (λ q. formula_of (nodes_of (case_said st).nodes (formula_table st) q))
      ≡ (file_content f).queries
  unfolding zeros
  said-formulas =
      let u = filled_with (words_of st) zeros in
      rw (filled-exact formula_size (formula_parts st.queries) (padded formula_size []) (padded-length formula_size []))
      at (says f st e (case_said st) zeros u zeros-long refl refl).queries_are

  pub said-named : (a : ℕ) → Named (name_of st a)
  said-named = every-named st.names (λ a h.
      let n = (accepted-names f st e).are_names a h in
      record { short = name-short (name_of st a) n; no_zero = no_zero (name_of st a) (name-bytes (name_of st a) n) })

  pub said-table : (a : ℕ) → a < 64 → name_in (padded name_size (rows_of st.names)) a ≡ name_of st a
  said-table = table-name st.names (λ a h. said-named a)

  said-settings : settings_in (case_said st) (clause_table st) ≤ 59049
  said-settings = sound-settings (case_said st) (clause_table st) (constraint_table st) (formula_table st) said-sound

  -- a sum over the settings of at most as many as there are atoms
  said-sum : {n : ℕ} → n ≤ settings_in (case_said st) (clause_table st) * (case_said st).atoms → n < 10 ^ 7
  said-sum h =
      let a = (sound-atoms (case_said st) _ _ _ said-sound).1 in
      omega (arith, h, mul-le-mul said-settings a)

  said-minimals : length (minimals_of st) ≤ 59049
  said-minimals =
      let n = settings_in (case_said st) (clause_table st) in
      let l = minimals-le (judge_in st) (choices_in (case_said st) (clause_table st)) n in
      omega (arith, said-settings)

  pub said-queries : length st.queries ≤ 16
  said-queries = (sound-formulas (case_said st) _ _ _ said-sound).1

  said-short : Short (totals_of st)
  said-short = record {
    rounds-short = said-sum (rounds_bounded (case_said st) _ _ _ said-sound);
    decided-short = said-sum (decided_bounded (case_said st) _ _ _ said-sound);
    minimal-short = omega (arith, said-minimals);
  }

  pub said-length : length (said_text st) ≤ 392640
  unfolding said_text
  said-length =
      let l = minimals_of st in
      let few = length-take list_length l in
      answer-length (name_of st) (λ a. (said-named a).short) (causes_said st) said-settings (verdict_numbers st)
      (totals_of st)
      (take list_length l) (omega (arith, numbers-length st, said-queries)) said-short (omega arith)

-- What is answered for it, with a list of 1,024 slots and a work area of 59,049 bytes

module _ (f : List ℕ) (st : Said) (e : read_file f ≡ Outcome.case st) where
  none : (work : List ℕ) → length work ≡ 59049
      → question_refusal (case_said st) (clause_table st) (constraint_table st) (formula_table st) (price_table st)
      (length work) ≡ 0
  none work room =
      let s = said-sound f st e in
      let prices = padded-length price_size (prices_of st.costs) in
      let full =
      lent-full (clause_table st) (constraint_table st) (formula_table st) (price_table st)
      (sound-full (case_said st) _ _ _ s) (omega arith) in
      refusal-none (case_said st) _ _ _ (price_table st) (length work) full s (omega (arith, said-settings f st e))

  pub asked_is_ok : (list work : List ℕ) → length work ≡ 59049 → (p : Result Answer Refusal)
      (listAfter workAfter : List ℕ)
      → Asked (case_said st) (clause_table st) (constraint_table st) (formula_table st) (price_table st) list work p
      listAfter workAfter
      → IsOk p
  asked_is_ok list work room (Ok q) _ _ h = refl
  asked_is_ok list work room (Err r) _ _ h =
      let n = number_some r in absurd (omega (arith, h.refusal_is, none work room))

module _ (f : List ℕ) (st : Said) (e : read_file f ≡ Outcome.case st) (list work : List ℕ) (full : length list ≡ 1024)
    (room : length work ≡ 59049) (r : Answer) (listAfter workAfter : List ℕ)
    (h : Asked (case_said st) (clause_table st) (constraint_table st) (formula_table st) (price_table st) list work
    (Ok r) listAfter workAfter)
  where
    answer-is : r
        ≡ answer_in (case_said st) (clause_table st) (constraint_table st) (formula_table st) (price_table st) 1024
    answer-is = rw full at h.answer_is

    -- the numbers in use
    verdicts_are : take (length st.queries) r.verdicts ≡ verdict_numbers st
    verdicts_are =
        let vs = verdict_numbers st in
        let n = numbers-length st in
        rw answer-is
        (ap (take (length st.queries)) (padded-split 16 vs (omega (arith, said-queries f st e)))
        ∙ take_at vs (padded (16 - length vs) []) (length st.queries) n)

    list_is : listAfter
        ≡ take (min (length (minimals_of st)) 1024) (minimals_of st) ++ drop (min (length (minimals_of st)) 1024) list
    list_is =
        let w = min (length (minimals_of st)) 1024 in
        let l = rw (none f st e work room, full) at h.list_is in
        l ∙ ap (λ (k : ℕ). take w (minimals_of st) ++ drop k list) (front_length (minimals_of st) list 1024)

    pub asked-fits : r.written ≤ length listAfter
    asked-fits = rw (answer-is, list_is) (front_fits (minimals_of st) list 1024 full)

    pub asked-text : (names : List ℕ) (causes : Causes) → names ≡ padded name_size (rows_of st.names)
        → causes ≡ causes_said st
        → answer_text (name_in names) causes (take (length st.queries) r.verdicts) (shown_of r)
        (take r.written listAfter) ≡ said_text st
    unfolding said_text
    asked-text names causes n c =
        rw (n, c, verdicts_are, answer-is, list_is, front-written (minimals_of st) list 1024)
        (answer_alike (name_in (padded name_size (rows_of st.names))) (name_of st) (said-table f st e) (causes_said st)
        (verdict_numbers st) (totals_of st) (take list_length (minimals_of st)))
