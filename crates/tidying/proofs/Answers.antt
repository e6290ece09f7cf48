-- What is shown of an accepted file, whose case is written back from the tables that it was read into. Assumes nothing.
use mathlib.Core.Path.{◌≡◌, sym, ap, ◌∙◌}
use mathlib.Core.List.{List}
use Prim.Native.Nat.{ℕ}
use Rattle.store.specs.Lent.{Lent, lent}
use Rattle.store.specs.Tables.{case_said}
use Rattle.std.specs.Prelude.{Result}
use Rattle.refusals.specs.declared.Refusal.{Refusal}
use Rattle.program.specs.declared.case.Case.{Case}
use Rattle.report.specs.Operation.{ReportShown}
use Rattle.report.proofs.Reported.{Accepted}
use Rattle.tidying.specs.Text.{tables_said, written_text, tidy_said, tidy_text}
use Rattle.tidying.specs.Operation.{Tidied}

module _ {f : List ℕ} {u : Lent} {c : Case} (a : Accepted f u c) where
  tables_are : u ≡ tables_said a.said
  tables_are = go a.clauses_are a.constraints_are a.formula-is a.names_are a.prices_are
    where
      go : {cl co fo na pr : List ℕ} → u.clauses ≡ cl → u.constraints ≡ co → u.formula ≡ fo → u.names ≡ na
          → u.prices ≡ pr → lent u.clauses u.constraints u.formula u.names u.prices
          ≡ lent cl co fo na pr
      go e1 e2 e3 e4 e5 = rw (e1, e2, e3, e4, e5)

  text-is : written_text c u ≡ tidy_text f
  unfolding tidy_said
  text-is =
      rw a.case-is (ap (written_text (case_said a.said)) tables_are) ∙ sym (a.text-is tidy_said)

  pub accepted_tidied : {out outAfter : List ℕ} {q : Result ℕ Refusal}
      → ReportShown (written_text c u) out q outAfter → Tidied f out q outAfter
  accepted_tidied s = rw text-is at s
