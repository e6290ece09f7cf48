-- Laws of the report of a file that was read into tables of exactly their sizes: its text where reading refuses, and
-- what the tables hold where it does not. Assumes nothing.
use mathlib.Core.Path.{◌≡◌, refl, sym, ap, ◌∙◌}
use mathlib.Core.Bool.{true}
use mathlib.Core.List.{List, []}
use mathlib.Core.Logic.{⊎_elim}
use Prim.Native.Nat.{ℕ, ◌*◌, ◌≤◌, ◌<◌}
use native.Mathlib.Omega.{arith}
use lib.ListN.{length, take, replicate, length-replicate}
use borrow.Author.Tests.{le-leb, lt-leb}
use Rattle.words.proofs.Tests.{lt-or-le}
use Rattle.table.specs.Filled.{padded}
use Rattle.table.proofs.Filled.{filled-exact, padded-length}
use Rattle.program.specs.Case.{clause_size, constraint_size, formula_size, name_size, price_size}
use Rattle.program.specs.declared.cause.Causes.{Causes}
use Rattle.program.specs.Cause.{causes_in}
use Rattle.program.specs.Sound.{sound}
use Rattle.program.proofs.Causes.{causes-of}
use Rattle.program.proofs.Soundness.{clauses-held, sound-full, sound-limits}
use Rattle.program.proofs.MakingSound.{tables-full}
use Rattle.names.specs.Names.{rows_of}
use Rattle.names.specs.Row.{name_in}
use Rattle.question.specs.declared.operation.Answer.{Answer}
use Rattle.question.specs.Operation.{Asked}
use Rattle.std.specs.Prelude.{Result, Ok, Err, IsOk}
use Rattle.refusals.specs.declared.Refusal.{Refusal}
use Rattle.refusals.specs.Refusal.{number_of}
use Rattle.refusals.proofs.Numbers.{number_some}
use Rattle.program.specs.declared.case.Case.{Case}
use Rattle.reader.specs.declared.read.Refused.{Refused}
use Rattle.reader.specs.Answers.{refusal_in, line_in, case_in}
use Rattle.store.specs.Lent.{Lent, lent}
use Rattle.store.specs.Prices.{prices_of}
use Rattle.store.specs.Saying.{Said}
use Rattle.store.specs.Tables.{clause_words, constraint_words, formula_parts, case_said}
use Rattle.reader.specs.Reading.{Outcome, refusal_of, line_of_refusal, read_file}
use Rattle.reader.specs.Operation.{tables_fit, early_refusal, ReadAs}
use Rattle.words.proofs.Checks.{first-failed-here, first-failed-behind}
use Rattle.reader.proofs.RefusalNumbers.{Numbered, file-numbered}
use Rattle.output.specs.Writing.{Room}
use Rattle.wording.specs.Text.{answer_text, refusal_text}
use Rattle.report.specs.Report.{clause_table, constraint_table, formula_table, price_table, causes_said, said_text}
use Rattle.report.specs.Report.{outcome_text, shown_of, file_refusal, file_text, report_text}
use Rattle.report.specs.Operation.{ReportShown}
use Rattle.report.proofs.FileTexts.{file-short, file-long, file-read, outcome-refused}
use Rattle.report.proofs.Accepted.{said-sound, said-length, said-queries, asked_is_ok, asked-fits, asked-text}

-- what was read of an accepted file f: what it says, the record of its case, and the tables u
pub record Accepted (f : List ℕ) (u : Lent) (c : Case) : Type 0 where
  pub said : Said
  pub read_is : read_file f ≡ Outcome.case said
  pub text-is : (text : Said → List ℕ) → file_text text f ≡ text said
  pub case-is : c ≡ case_said said
  pub clauses_are : u.clauses ≡ clause_table said
  pub constraints_are : u.constraints ≡ constraint_table said
  pub formula-is : u.formula ≡ formula_table said
  pub names_are : u.names ≡ padded name_size (rows_of said.names)
  pub prices_are : u.prices ≡ price_table said

-- the lent tables have exactly their sizes
pub record FullTables (t : Lent) : Type 0 where
  pub clauses-full : length t.clauses ≡ clause_size
  pub constraints-full : length t.constraints ≡ constraint_size
  pub formula-full : length t.formula ≡ formula_size
  pub names-full : length t.names ≡ name_size
  pub prices-full : length t.prices ≡ price_size

-- tables of exactly their sizes fit
pub full_fit : (t : Lent) → FullTables t → tables_fit t ≡ true
unfolding tables_fit
full_fit t x =
    let full =
    tables-full t.clauses t.constraints t.formula (omega (arith, x.clauses-full))
    (omega (arith, x.constraints-full)) (omega (arith, x.formula-full)) in
    rw (
      full,
      le-leb name_size (length t.names) (omega (arith, x.names-full)),
      le-leb price_size (length t.prices) (omega (arith, x.prices-full)),
    )

-- the file f was read into the tables t of their sizes, which became u, with the answer r
module _ {f : List ℕ} {t u : Lent} {r : Result Case Refused} (x : FullTables t) (h : ReadAs f t u r) where
  is-early : 32768 < length f → early_refusal f t ≡ 2
  unfolding early_refusal
  is-early l = rw (full_fit t x) (first-failed-here 2 [] (lt-leb (length f) 32768 l))

  not-early : length f ≤ 32768 → early_refusal f t ≡ 0
  unfolding early_refusal
  not-early l = rw (full_fit t x) (first-failed-behind 2 [] (le-leb (length f) 32768 l))

  refusal-read : length f ≤ 32768 → refusal_in r ≡ refusal_of (read_file f)
  refusal-read l = rw (not-early l) at h.refusal_is

  module _ (k : refusal_in r ≡ 0 → ⊥) where
    refused_report : (text : Said → List ℕ) → refusal_text (refusal_in r) (line_in r) ≡ file_text text f
    refused_report text = ⊎_elim long short (lt-or-le 32768 (length f))
      where
        long : 32768 < length f → refusal_text (refusal_in r) (line_in r) ≡ file_text text f
        long l = rw (h.refusal_is, h.line-is, is-early l, file-long text f l)

        short : length f ≤ 32768 → refusal_text (refusal_in r) (line_in r) ≡ file_text text f
        short l =
            let n = refusal-read l in
            let m : line_in r ≡ line_of_refusal (read_file f) = rw (not-early l) at h.line-is in
            rw (n, m, file-read text f l) (outcome-refused text (read_file f) (λ z. k (n ∙ z)))

    pub refused-shown : (text : Said → List ℕ) {out outAfter : List ℕ} {q : Result ℕ Refusal}
        → ReportShown (refusal_text (refusal_in r) (line_in r)) out q outAfter
        → ReportShown (file_text text f) out q outAfter
    refused-shown text s = rw (refused_report text) at s

    -- a file that is refused says nothing
    pub refused_silent : (st : Said) → file_refusal f ≡ 0 → read_file f ≡ Outcome.case st → ⊥
    refused_silent st z e = k (refusal-read (file-short f z) ∙ ap refusal_of e)

  accepted-case : (st : Said) → read_file f ≡ Outcome.case st → length f ≤ 32768 → Accepted f u (case_in r)
  accepted-case st e l =
      let n = not-early l in
      let z : refusal_in r ≡ 0 = rw (n, e) at h.refusal_is in
      record {
        said = st;
        read_is = e;
        text-is = λ text. file-read text f l ∙ ap (outcome_text text) e;
        case-is = rw (z, e) at h.case-is;
        clauses_are = rw (n, e) at h.clauses_are ∙ filled-exact clause_size _ t.clauses x.clauses-full;
        constraints_are =
            rw (n, e) at h.constraints_are ∙ filled-exact constraint_size _ t.constraints x.constraints-full;
        formula-is = rw (n, e) at h.formula-is ∙ filled-exact formula_size _ t.formula x.formula-full;
        names_are = rw (n, e) at h.names_are ∙ filled-exact name_size _ t.names x.names-full;
        prices_are = rw (n, e) at h.prices_are ∙ filled-exact price_size _ t.prices x.prices-full;
      }

  accepted_by : (o : Outcome) → read_file f ≡ o → Numbered o → refusal_of o ≡ 0 → length f ≤ 32768
      → Accepted f u (case_in r)
  accepted_by (Outcome.case st) e n k l = accepted-case st e l
  accepted_by (Outcome.refused m i) e n k l = absurd (n k)

  pub accepted_report : refusal_in r ≡ 0 → Accepted f u (case_in r)
  accepted_report k = ⊎_elim long short (lt-or-le 32768 (length f))
    where
      long : 32768 < length f → Accepted f u (case_in r)
      long l = let n : refusal_in r ≡ 2 = rw (is-early l) at h.refusal_is in absurd (omega arith)

      short : length f ≤ 32768 → Accepted f u (case_in r)
      short l = accepted_by (read_file f) refl (file-numbered f) (sym (refusal-read l) ∙ k) l

-- An accepted file, and what its question answers, with a list of 1,024 slots and a work area of 59,049 bytes

abbrev text_of : Case → Lent → Causes → Answer → List ℕ → List ℕ
text_of c u causes q list =
    answer_text (name_in u.names) causes (take c.formulas q.verdicts) (shown_of q)
    (take q.written list)

-- what the report shows of the answer q and its list, with the record c of the case and the tables u
pub record Answered (f : List ℕ) (c : Case) (u : Lent) (causes : Causes) (q : Answer) (list : List ℕ)
    : Type 0
  where
    pub names_fit : name_size ≤ length u.names
    pub queries_fit : c.formulas ≤ 16
    pub list_fits : q.written ≤ length list
    pub text-fits : Room (text_of c u causes q list) 0
    pub text-is : text_of c u causes q list ≡ report_text f

module _ {f : List ℕ} {u : Lent} {c : Case} (a : Accepted f u c) where
  pub accepted-sound : sound c u.clauses u.constraints u.formula ≡ true
  accepted-sound =
      rw (a.case-is, a.clauses_are, a.constraints_are, a.formula-is) (said-sound f a.said a.read_is)

  pub accepted-held : let n = c.atoms in
      (1 ≤ n) × (n ≤ 64) × (c.clauses ≤ 256) × (3 * c.clauses ≤ length u.clauses)
  accepted-held =
      clauses-held c u.clauses u.constraints u.formula
      (sound-full c u.clauses u.constraints u.formula accepted-sound)
      (sound-limits c u.clauses u.constraints u.formula accepted-sound)

  pub accepted-names : length u.names ≡ name_size
  accepted-names = ap length a.names_are ∙ padded-length name_size (rows_of a.said.names)

  -- the question is answered, with a list of 1,024 slots and a work area of 59,049 bytes
  module _ {list work listAfter workAfter : List ℕ} {p : Result Answer Refusal} (full : length list ≡ 1024)
      (room : length work ≡ 59049)
      (h : Asked c u.clauses u.constraints u.formula u.prices list work p listAfter
      workAfter) where
    asked-said : let st = a.said in
        Asked (case_said st) (clause_table st) (constraint_table st) (formula_table st) (price_table st) list work p
        listAfter workAfter
    asked-said = rw (a.case-is, a.clauses_are, a.constraints_are, a.formula-is, a.prices_are) at h

    pub accepted_is_ok : IsOk p
    accepted_is_ok = asked_is_ok f a.said a.read_is list work room p listAfter workAfter asked-said

    pub accepted-answered : {causes : Causes} {q : Answer}
        → causes ≡ causes_in c.edition c.atoms u.clauses c.clauses → p ≡ Ok q → Answered f c u causes q listAfter
    accepted-answered {causes} {q} d o =
        let st = a.said in
        let e : causes ≡ causes_said st = rw (a.case-is, a.clauses_are) at (d ∙ sym (causes-of c _)) in
        let h = rw o at asked-said in
        let t : text_of c u causes q listAfter ≡ said_text st =
        rw a.case-is
        (asked-text f st a.read_is list work full room q listAfter workAfter h u.names causes a.names_are e) in
        record {
          names_fit = omega (arith, accepted-names);
          queries_fit = rw a.case-is (said-queries f st a.read_is);
          list_fits = asked-fits f st a.read_is list work full room q listAfter workAfter h;
          text-fits = rw t (omega (arith, said-length f st a.read_is));
          text-is = t ∙ sym (a.text-is said_text);
        }

-- Tables of zeros, exactly of their sizes

abbrev pub no_tables : Lent
no_tables =
    lent (replicate clause_size 0) (replicate constraint_size 0) (replicate formula_size 0) (replicate name_size 0)
    (replicate price_size 0)

pub none_full : FullTables no_tables
none_full = record {
  clauses-full = length-replicate {A = ℕ} clause_size 0;
  constraints-full = length-replicate {A = ℕ} constraint_size 0;
  formula-full = length-replicate {A = ℕ} formula_size 0;
  names-full = length-replicate {A = ℕ} name_size 0;
  prices-full = length-replicate {A = ℕ} price_size 0;
}

module _ {f : List ℕ} {u : Lent} where
  -- a file that is refused with the number n
  module _ {e : Refused} (h : ReadAs f no_tables u (Err e)) where
    pub read-refused : number_of e.refusal ≡ 0 → ⊥
    read-refused z = let n = number_some e.refusal in absurd (omega (arith, z))

    pub read_refused-shown : (text : Said → List ℕ) {n : ℕ} → n ≡ number_of e.refusal → {out outAfter : List ℕ}
        {q : Result ℕ Refusal} → ReportShown (refusal_text n e.line) out q outAfter
        → ReportShown (file_text text f) out q outAfter
    read_refused-shown text i s = refused-shown none_full h read-refused text (rw i at s)

  -- a file that is accepted
  module _ {c : Case} (h : ReadAs f no_tables u (Ok c)) where
    pub read-accepted : Accepted f u c
    read-accepted = accepted_report none_full h refl

    module _ {listAfter workAfter : List ℕ} {p : Result Answer Refusal}
        (a : Asked c u.clauses u.constraints u.formula u.prices (replicate 1024 0) (replicate 59049 0) p listAfter
        workAfter) where
      pub read_is_ok : IsOk p
      read_is_ok =
          accepted_is_ok read-accepted (length-replicate {A = ℕ} 1024 0) (length-replicate {A = ℕ} 59049 0) a

      pub read-answered : {causes : Causes} {q : Answer} → causes ≡ causes_in c.edition c.atoms u.clauses c.clauses
          → p ≡ Ok q → Answered f c u causes q listAfter
      read-answered =
          accepted-answered read-accepted (length-replicate {A = ℕ} 1024 0) (length-replicate {A = ℕ} 59049 0) a
