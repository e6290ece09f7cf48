-- Laws of the end of reading: the checks 11 and 12, and the answer and the tables after them. Assumes nothing.
use mathlib.Core.Path.{◌≡◌, refl, sym, ap, ◌∙◌}
use Rattle.std.specs.Prelude.{Ok, Err}
use Rattle.refusals.specs.declared.Refusal.{Refusal}
use Rattle.refusals.specs.Refusal.{number_of}
use Rattle.refusals.proofs.Numbers.{number_some}
use mathlib.Core.Bool.{Bool, true, false, not}
use mathlib.Core.List.{List}
use Prim.Native.Nat.{ℕ, ◌*◌, ◌≤◌}
use native.Mathlib.Omega.{arith}
use lib.Dec.{leb}
use lib.ListN.{length}
use borrow.Author.Tests.{leb-true, le-leb, not-true, not-false}
use Rattle.program.specs.declared.case.Case.{Case}
use Rattle.program.specs.Sound.{few_settings}
use Rattle.text.proofs.LineLaws.{lines_none}
use Rattle.store.specs.Lent.{Lent}
use Rattle.store.specs.Saying.{edition_of}
use Rattle.store.proofs.Held.{held_in_limits}
use Rattle.checks.specs.declared.progress.Progress.{Progress}
use Rattle.reader.specs.Reading.{Outcome, or_else, settings_few, end_refusal, ending, read_lines, read_file}
use Rattle.reader.specs.Answers.{of_no_line}
use Rattle.reader.specs.Steps.{end_refusal_in, Countable, FileTaken}
use Rattle.reader.proofs.FilledTables.{few-settings-filled}
use Rattle.reader.proofs.TakingLines.{or_else-refused, refused-taken, LinesTaken}

-- the checks 11 and 12 of a record
module _ (c : Case) (cl : List ℕ) where
  pub end_eleven : c.formulas ≡ 0 → 11 ≡ end_refusal_in c cl
  end_eleven e = rw e

  module _ (h : c.formulas ≡ 0 → ⊥) where
    pub countable_held : Countable c cl
        → (1 ≤ c.atoms) × (c.atoms ≤ 64) × (c.clauses ≤ 256) × (3 * c.clauses ≤ length cl)
    countable_held p =
        (p.atoms-some h, p.limits.atoms-few, p.limits.clauses-few, omega (arith, p.limits.clauses-few))

    module _ {b : Bool} (f : b ≡ few_settings c.edition c.atoms cl c.clauses) where
      pub end_twelve : not b ≡ true → 12 ≡ end_refusal_in c cl
      end_twelve e = rw (le-leb 1 c.formulas (omega arith), ← f, not-true b e)

      pub end_none : not b ≡ false → 0 ≡ end_refusal_in c cl
      end_none e = rw (le-leb 1 c.formulas (omega arith), ← f, not-false b e)

-- all lines are taken
module _ {f : List ℕ} {t₀ t : Lent} {p : Progress} {at line : ℕ} (i : LinesTaken f t₀ t p at line) where
  abbrev c : Case
  c = p.found

  -- the tests of the record and of the table are those of what was read
  query-is : leb 1 c.formulas ≡ leb 1 (length i.said.queries)
  query-is = rw i.reached.held.case-is

  few-is : few_settings c.edition c.atoms t.clauses c.clauses ≡ settings_few i.said
  few-is =
      let e = ap (λ (x : Lent). x.clauses) i.reached.held.tables_are in
      rw (i.reached.held.case-is, e)
      (few-settings-filled i.said.clauses t.clauses i.long.clauses-long
      i.reached.held.limits.clauses-few (edition_of i.said.editions) (length i.said.names))

  end_is : end_refusal_in c t.clauses ≡ end_refusal i.said
  end_is = rw (query-is, few-is)

  -- what counting the settings requires
  pub settings_countable : Countable c t.clauses
  settings_countable = record {
    limits = held_in_limits i.said c t i.reached.held;
    atoms-some = λ h.
        let q : 1 ≤ length i.said.queries = leb-true 1 _ (sym query-is ∙ le-leb 1 c.formulas (omega arith)) in
        rw i.reached.held.case-is (i.reached.held.limits.query-atoms q);
    clauses-long = i.long.clauses-long;
  }

  -- the end decides by the number n
  end_by : length f ≤ at → {n : ℕ} → n ≡ end_refusal_in c t.clauses → read_file f ≡ or_else n 0 (Outcome.case i.said)
  unfolding read_lines ending
  end_by h e =
      i.rest-is ∙ ap (λ (m : List (List ℕ)). read_lines m i.said line) (lines_none f at h)
      ∙ ap (λ (m : ℕ). or_else m 0 (Outcome.case i.said)) (sym (e ∙ end_is))

  pub end_refused : length f ≤ at → {r : Refusal} → number_of r ≡ end_refusal_in c t.clauses
      → FileTaken f t₀ t (Err (of_no_line r))
  end_refused h {r} e =
      let some : number_of r ≡ 0 → ⊥ = λ z. let s = number_some r in omega arith in
      refused-taken f t₀ t r 0 (end_by h e ∙ or_else-refused (number_of r) 0 _ some) i.kept

  pub end-accepted : length f ≤ at → 0 ≡ end_refusal_in c t.clauses → FileTaken f t₀ t (Ok c)
  end-accepted h e =
      let o : read_file f ≡ Outcome.case i.said = end_by h e in
      record {
        answer-is = rw o (record { refusal_is = refl; line-is = refl; case-is = i.reached.held.case-is });
        kept = i.kept;
        tables_are = rw o i.reached.held.tables_are;
      }
