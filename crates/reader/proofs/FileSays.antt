-- An accepted file's record and tables say what the file says.
--
--   Accepted f t u r     what is known of an answer r that accepts the file f
-- Assumes nothing.
use mathlib.Core.Path.{◌≡◌, refl, sym, ap, ◌∙◌}
use mathlib.Core.Bool.{true, false}
use mathlib.Core.List.{List}
use Prim.Native.Nat.{ℕ, ◌^◌, ◌<◌}
use native.Mathlib.Nat.{lt_of_lt_of_le}
use native.Mathlib.Omega.{arith}
use lib.ListN.{length}
use lib.Pow.{pow_mono}
use Rattle.words.specs.Lists.{list_of}
use Rattle.words.proofs.Checks.{first_of-none}
use Rattle.words.proofs.Lists.{list_of_is}
use Rattle.logic.specs.Formula.{Formula}
use Rattle.logic.specs.Nodes.{formula_of}
use Rattle.logic.proofs.Spelled.{one-formula-unique}
use Rattle.program.specs.declared.case.Case.{Case}
use Rattle.program.specs.Case.{nodes_of}
use Rattle.program.specs.Program.{clauses_of}
use Rattle.text.specs.Lines.{lines}
use Rattle.text.proofs.Each.{Each, each_at, each_gives}
use Rattle.names.proofs.Rows.{filled_row}
use Rattle.store.specs.Lent.{Lent, filled_with}
use Rattle.store.specs.Prices.{CostRow, price_in}
use Rattle.store.specs.Saying.{ClauseRow, Said, nothing_said, edition_of, plain_atoms, negated_atoms}
use Rattle.store.specs.Tables.{words_of, case_said}
use Rattle.store.specs.Held.{Long}
use Rattle.store.proofs.FilledLent.{lent_same}
use Rattle.store.proofs.Saying.{is-atoms}
use Rattle.store.proofs.FilledRows.{formula-is}
use Rattle.store.proofs.Prices.{price-at}
use Rattle.std.specs.Prelude.{Result}
use Rattle.reader.specs.declared.read.Refused.{Refused}
use Rattle.reader.specs.Answers.{refusal_in, case_in}
use Rattle.reader.specs.Reading.{Outcome, refusal_of, read_file}
use Rattle.reader.specs.Operation.{early_refusal, ReadAs}
use Rattle.reader.specs.Contents.{file_names, no_content, file_content, constraints_of, Says}
use Rattle.reader.proofs.EarlyRefusals.{early-passed}
use Rattle.reader.proofs.RefusalNumbers.{Numbered, file-numbered}
use Rattle.reader.proofs.FirstBad.{accepted_through}
use Rattle.reader.proofs.WellFormed.{query-spells}
use Rattle.reader.proofs.WellFormedLines.{Ended, accepted-formed}
use Rattle.reader.proofs.FilledTables.{clauses-filled, constraints-filled}
use Rattle.reader.proofs.LinesSay.{through_names, Saying, nothing-saying, through_saying}

-- What was read of an accepted file

module _ (f : List ℕ) (st : Said) (e : read_file f ≡ Outcome.case st) where
  ended : Ended st
  ended = accepted-formed f st e

  names-read : st.names ≡ file_names f
  names-read = rw (accepted_through f st e).2 at (through_names (lines f) nothing_said)

  content-read : Saying (file_names f) st (file_content f)
  content-read =
      let a = accepted_through f st e in
      rw a.2 at
      (through_saying (file_names f) (lines f) nothing_said no_content (nothing-saying (file_names f)) a.0 refl)

  -- a word of the atoms
  below_word : (w : ℕ) → w < 2 ^ length st.names → w < 2 ^ 64
  below_word w h = lt_of_lt_of_le h (pow_mono ended.formed.names.rows.few)

  plain-read : st.plain ≡ plain_atoms (file_names f) (file_content f).observed
  plain-read =
      is-atoms _ false st.plain _ (below_word _ ended.formed.observed.plain-lt) content-read.plain_are

  negated-read : st.negated ≡ negated_atoms (file_names f) (file_content f).observed
  negated-read =
      is-atoms _ true st.negated _ (below_word _ ended.formed.observed.negated-lt) content-read.negated_are

  small : Each (λ (x : ClauseRow). x.head < 64) st.clauses
  small =
      let n = ended.formed.names.rows.few in
      each_gives _ _ (λ x q. omega (arith, q.head-lt)) st.clauses ended.formed.clauses.each

  -- The record c, and the tables u filled over t

  module _ (c : Case) (t u : Lent) (long : Long t) (found : c ≡ case_said st)
      (tables : u ≡ filled_with (words_of st) t) where
    clauses-said : clauses_of u.clauses c.clauses ≡ (file_content f).clauses
    clauses-said =
        rw (tables, found)
        (clauses-filled st.clauses t.clauses long.clauses-long ended.formed.clauses.few small)
        ∙ content-read.clauses_are

    constraints-said : constraints_of u.constraints c.constraints ≡ (file_content f).constraints
    constraints-said =
        rw (tables, found)
        (constraints-filled st.constraints t.constraints long.constraints-long
        ended.formed.constraints.few)
        ∙ content-read.constraints_are

    queries-said : list_of c.formulas (λ q. formula_of (nodes_of c.nodes u.formula q)) ≡ (file_content f).queries
    queries-said =
        rw (tables, found)
        (list_of_is st.queries Formula.truth _ (λ q l.
        let r = each_at _ st.queries q Formula.truth ended.formed.queries.each l in
        rw (formula-is st.queries ended.formed.queries.few q l t.formula long.formula-long r.nodes-few)
        (one-formula-unique _ _ _ ended.formed.names.rows.few (query-spells r))))
        ∙ content-read.queries_are

    pub says : Says f c u
    says = record {
      atoms_are = rw found (ap length names-read);
      names_are = λ a h.
          rw (tables, ← names-read)
          (filled_row st.names t.names a long.names-long
          (let few = ended.formed.names.rows.few in let l = rw found at h in omega arith));
      clauses_are = clauses-said;
      constraints_are = constraints-said;
      plain_are = rw found plain-read;
      negated_are = rw found negated-read;
      queries_are = queries-said;
      prices_are = λ a h.
          rw tables (price-at st.costs t.prices long.prices-long a h)
          ∙ ap (λ (cs : List CostRow). price_in cs a) content-read.costs_are;
      edition-is = rw found (ap edition_of content-read.editions_are);
    }

-- The answer of reading

-- an outcome that is not refused is a case
not-refused : (o : Outcome) → Numbered o → refusal_of o ≡ 0 → (st : Said) × (o ≡ Outcome.case st)
not-refused (Outcome.case st) h e = (st, refl)
not-refused (Outcome.refused n k) h e = absurd (h e)

-- the tables u at exit hold what the file f says, which is said, over the tables t at entry
pub record Accepted (f : List ℕ) (t u : Lent) (r : Result Case Refused) : Type 0 where
  pub said : Said
  pub file-is : read_file f ≡ Outcome.case said
  pub long : Long t
  pub found-is : case_in r ≡ case_said said
  pub tables_are : u ≡ filled_with (words_of said) t

module _ (f : List ℕ) (t u : Lent) (r : Result Case Refused) (h : ReadAs f t u r) (z : refusal_in r ≡ 0) where
  unrefused : (early_refusal f t ≡ 0) × (refusal_of (read_file f) ≡ 0)
  unrefused = first_of-none (early_refusal f t) (refusal_of (read_file f)) (sym h.refusal_is ∙ z)

  pub accepted : Accepted f t u r
  accepted =
      let early = unrefused.0 in
      let (st, e) = not-refused (read_file f) (file-numbered f) unrefused.1 in
      record {
        said = st;
        file-is = e;
        long = (early-passed f t (sym early) refl).0;
        found-is = rw (z, e) at h.case-is;
        tables_are = lent_same (rw (early, e) at h.clauses_are) (rw (early, e) at h.constraints_are)
            (rw (early, e) at h.formula-is) (rw (early, e) at h.names_are) (rw (early, e) at h.prices_are);
      }

pub answer-says : (f : List ℕ) (t u : Lent) (r : Result Case Refused) → ReadAs f t u r → refusal_in r ≡ 0
    → Says f (case_in r) u
answer-says f t u r h z =
    let a = accepted f t u r h z in
    says f a.said a.file-is (case_in r) t u a.long a.found-is a.tables_are
