-- Laws of the early refusals 1 and 2, which touch nothing, and of reading where there is none. Assumes nothing.
use mathlib.Core.Path.{◌≡◌, refl, sym, ap, ◌∙◌}
use mathlib.Core.Bool.{Bool, true, ◌&&◌}
use mathlib.Core.List.{List, [], ◌∷◌}
use Prim.Native.Nat.{ℕ, zero, suc, ◌≤◌}
use native.Mathlib.Omega.{arith}
use lib.Dec.{leb}
use lib.ListN.{length}
use borrow.Author.Tests.{leb-true}
use Rattle.std.specs.Prelude.{Result, Ok, Err, IfOk}
use Rattle.refusals.specs.declared.Refusal.{Refusal}
use Rattle.refusals.specs.Refusal.{number_of}
use Rattle.refusals.proofs.Numbers.{number_some}
use Rattle.program.specs.declared.case.Case.{Case}
use Rattle.words.specs.Choice.{unless_refused, check}
use Rattle.words.proofs.Tests.{and_true_l, and_true_r}
use Rattle.words.proofs.Checks.{none-failed}
use Rattle.program.specs.Case.{name_size, price_size}
use Rattle.program.proofs.Soundness.{full-clauses, full-constraints, full-formula}
use Rattle.store.specs.Lent.{Lent}
use Rattle.store.specs.Tables.{no_case}
use Rattle.store.specs.Held.{Long}
use Rattle.reader.specs.declared.read.Refused.{Refused}
use Rattle.reader.specs.Answers.{of_no_line, refusal_in, case_in}
use Rattle.reader.specs.Operation.{tables_fit, early_refusal, ReadAs}
use Rattle.reader.specs.Steps.{LinesRead}

unless-refused : {A : Type 0} (n : ℕ) (x y : A) → (n ≡ 0 → ⊥) → y ≡ unless_refused n x y
unless-refused zero x y h = absurd (h refl)
unless-refused (suc n) x y h = refl

-- the record of an answer
case_chosen : (r : Result Case Refused) (c : Case) → IfOk r (λ d. d ≡ c)
    → case_in r ≡ unless_refused (refusal_in r) c no_case
case_chosen (Ok d) c h = h
case_chosen (Err e) c h =
    unless-refused (number_of e.refusal) c no_case (λ z. let n = number_some e.refusal in omega arith)

both_true : (a b d : Bool) → ((a && b) && d) ≡ true → (a ≡ true) × (b ≡ true) × (d ≡ true)
both_true a b d h =
    let front = and_true_l (a && b) d h in
    (and_true_l a b front, and_true_r a b front, and_true_r (a && b) d h)

-- the five tables fit where they have their full sizes
pub fit_long : (t : Lent) → tables_fit t ≡ true → Long t
unfolding tables_fit
fit_long t h =
    let p = both_true _ (leb name_size (length t.names)) (leb price_size (length t.prices)) h in
    record {
      clauses-long = full-clauses _ _ _ p.0;
      constraints-long = full-constraints _ _ _ p.0;
      formula-long = full-formula _ _ _ p.0;
      names-long = leb-true name_size _ p.1;
      prices-long = leb-true price_size _ p.2;
    }

-- the number n is that of the early refusal
module _ (f : List ℕ) (t : Lent) {n : ℕ} (e : n ≡ early_refusal f t) where
  -- where there is none, the tables have their sizes and the file is not too long
  pub early-passed : n ≡ 0 → Long t × (length f ≤ 32768)
  unfolding early_refusal
  early-passed z =
      let p = none-failed (check 1 (tables_fit t) ∷ check 2 (leb (length f) 32768) ∷ []) refl (sym e ∙ z) in
      (fit_long t p.0, leb-true _ 32768 p.1.0)

  -- what is chosen by an early refusal
  chosen : {A : Type 0} (x y : A) → (n ≡ 0 → ⊥) → y ≡ unless_refused (early_refusal f t) x y
  chosen x y h = rw (← e) (unless-refused n x y h)

  passed : {A : Type 0} (x y z : A) → n ≡ 0 → z ≡ x → z ≡ unless_refused (early_refusal f t) x y
  passed x y z k h = rw (← e, k) h

  pub read_through : {u : Lent} {r : Result Case Refused} → n ≡ 0 → LinesRead f t u r → ReadAs f t u r
  read_through {r = r} k h = record {
    refusal_is = passed _ _ _ k h.answer-is.refusal_is;
    line-is = passed _ _ _ k h.answer-is.line-is;
    case-is = case_chosen r _ h.answer-is.case-is;
    clauses_are = passed _ _ _ k (ap (λ (x : Lent). x.clauses) h.tables_are);
    constraints_are = passed _ _ _ k (ap (λ (x : Lent). x.constraints) h.tables_are);
    formula-is = passed _ _ _ k (ap (λ (x : Lent). x.formula) h.tables_are);
    names_are = passed _ _ _ k (ap (λ (x : Lent). x.names) h.tables_are);
    prices_are = passed _ _ _ k (ap (λ (x : Lent). x.prices) h.tables_are);
  }

-- the early refusal r
pub read-refused : (f : List ℕ) (t : Lent) {r : Refusal} → number_of r ≡ early_refusal f t
    → ReadAs f t t (Err (of_no_line r))
read-refused f t {r} e =
    let some : number_of r ≡ 0 → ⊥ = λ z. let n = number_some r in omega arith in
    record {
      refusal_is = rw (← e) (unless-refused (number_of r) _ (number_of r) some);
      line-is = chosen f t e _ 0 some;
      case-is = unless-refused (number_of r) _ no_case some;
      clauses_are = chosen f t e _ t.clauses some;
      constraints_are = chosen f t e _ t.constraints some;
      formula-is = chosen f t e _ t.formula some;
      names_are = chosen f t e _ t.names some;
      prices_are = chosen f t e _ t.prices some;
    }
