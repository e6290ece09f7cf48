-- Laws of the text of a case that is written back, and of what is shown of it. Assumes nothing.
use mathlib.Core.Path.{◌≡◌, refl, sym, ap, ◌∙◌}
use mathlib.Core.Bool.{Bool, true, false, not, ◌&&◌}
use mathlib.Core.List.{List, [], ◌∷◌}
use mathlib.Core.Logic.{◌⊎◌, inl, inr, ⊎_elim}
use Prim.Native.Nat.{ℕ, zero, suc, ◌≤◌}
use native.Mathlib.Omega.{arith}
use lib.Dec.{leb}
use lib.ListN.{length}
use borrow.Author.Tests.{leb-true}
use Rattle.words.specs.Choice.{unless_refused, first_of, check, first_failed}
use Rattle.words.proofs.Checks.{none-failed, first-failed-append}
use Rattle.words.proofs.Tests.{and_true_r, lt-or-le}
use Rattle.program.specs.declared.case.Case.{Case}
use Rattle.store.specs.Lent.{Lent}
use Rattle.reader.specs.Operation.{tables_fit}
use Rattle.std.specs.Prelude.{Result}
use Rattle.refusals.specs.declared.Refusal.{Refusal}
use Rattle.refusals.specs.Refusal.{number_of, refused_as}
use Rattle.spelling.specs.Page.{some_long_line}
use Rattle.wording.specs.Text.{refusal_text}
use Rattle.wording.proofs.Lengths.{refusal-length}
use Rattle.writing.specs.Operation.{writable, case_lines, case_text, write_refusal, WrittenAs}
use Rattle.report.specs.Operation.{report_refusal, ReportShown}
use Rattle.report.proofs.Showing.{refusal-short, refusal-none}
use Rattle.tidying.specs.Text.{longest_text, written_text}

three_checks : (a b d : Bool) → first_failed (check 1 a ∷ check 13 b ∷ check 18 d ∷ []) ≡ 19 → ⊥
three_checks true true true e = omega (arith, e)
three_checks true true false e = omega (arith, e)
three_checks true false d e = omega (arith, e)
three_checks false b d e = omega (arith, e)

module _ (c : Case) (t : Lent) where
  -- the length of its lines and of its text are within their limits
  abbrev text_fits : Bool
  text_fits = not (some_long_line (case_lines c t)) && leb (length (case_text c t)) longest_text

  -- the refusal of the case, whatever the output
  abbrev case_refusal : ℕ
  case_refusal = first_failed (check 1 (tables_fit t) ∷ check 13 (writable c t) ∷ check 18 text_fits ∷ [])

  by_output : (n : ℕ) → write_refusal c t n ≡ first_of case_refusal (report_refusal (case_text c t) n)
  unfolding write_refusal report_refusal
  by_output n =
      first-failed-append (check 1 (tables_fit t) ∷ check 13 (writable c t) ∷ check 18 text_fits ∷ [])
      (check 19 (leb (length (case_text c t)) n) ∷ []) refl

  text-fits : case_refusal ≡ 0 → length (case_text c t) ≤ longest_text
  text-fits e =
      let p = none-failed (check 1 (tables_fit t) ∷ check 13 (writable c t) ∷ check 18 text_fits ∷ []) refl e in
      leb-true (length (case_text c t)) longest_text
      (and_true_r (not (some_long_line (case_lines c t))) (leb (length (case_text c t)) longest_text) p.1.1.0)

  -- an output of longest_text bytes is long enough
  limit_enough : (m : ℕ) → case_refusal ≡ m → first_of m (report_refusal (case_text c t) longest_text) ≡ m
  limit_enough zero e = refusal-none (case_text c t) longest_text (text-fits e)
  limit_enough (suc m) e = refl

  at_limit : write_refusal c t longest_text ≡ case_refusal
  at_limit = by_output longest_text ∙ limit_enough case_refusal refl

  written_is : written_text c t ≡ unless_refused case_refusal (case_text c t) (refusal_text case_refusal 0)
  written_is = ap (λ (n : ℕ). unless_refused n (case_text c t) (refusal_text n 0)) at_limit

  written_by : (m : ℕ) → case_refusal ≡ m → length (unless_refused m (case_text c t) (refusal_text m 0)) ≤ longest_text
  written_by zero e = text-fits e
  written_by (suc m) e = omega (arith, refusal-length (suc m) 0)

  -- where its tables fit and it can be written, 18 is left
  pub limit_refusal : tables_fit t ≡ true → writable c t ≡ true
      → (write_refusal c t longest_text ≡ 0) ⊎ (write_refusal c t longest_text ≡ 18)
  limit_refusal f w = rw (at_limit, f, w) (go text_fits)
    where
      go : (b : Bool) → (first_failed (check 18 b ∷ []) ≡ 0) ⊎ (first_failed (check 18 b ∷ []) ≡ 18)
      go true = inl refl
      go false = inr refl

  pub written-length : length (written_text c t) ≤ longest_text
  written-length = rw written_is (written_by case_refusal refl)

  -- the answer a of writing the case to the output
  module _ {out u : List ℕ} {a : Result ℕ Refusal} (h : WrittenAs c t out a u) where
    -- the refusal by the output's length alone
    abbrev short_refusal : ℕ
    short_refusal = report_refusal (case_text c t) (length out)

    answered : refused_as a ≡ first_of case_refusal short_refusal
    answered = h.refusal_is ∙ by_output (length out)

    kept : case_refusal ≡ 0 → ReportShown (written_text c t) out a u
    kept e = rw (written_is, e) (rw (by_output (length out), e) at h)

    -- neither 0 nor 19 is a refusal of the case
    not-refused : (m : ℕ) → case_refusal ≡ m → refused_as a ≡ first_of m short_refusal
        → (refused_as a ≡ 0) ⊎ (refused_as a ≡ 19) → m ≡ 0
    not-refused zero e f r = refl
    not-refused (suc m) e f r =
        absurd (⊎_elim (λ (z : refused_as a ≡ 0). omega (arith, f, z))
        (λ (z : refused_as a ≡ 19). three_checks (tables_fit t) (writable c t) text_fits (e ∙ sym f ∙ z)) r)

    pub written_whole : refused_as a ≡ 0 → ReportShown (written_text c t) out a u
    written_whole z = kept (not-refused case_refusal refl answered (inl z))

    pub written-short : refused_as a ≡ 19 → ReportShown (written_text c t) out a u
    written-short z = kept (not-refused case_refusal refl answered (inr z))

    -- a refusal of the case is told
    told : (m : ℕ) → case_refusal ≡ m → refused_as a ≡ first_of m short_refusal → (refused_as a ≡ 0 → ⊥)
        → (refused_as a ≡ 19 → ⊥) → {q : Result ℕ Refusal} {v : List ℕ}
        → ReportShown (refusal_text (refused_as a) 0) u q v → ReportShown (written_text c t) out q v
    told zero e f x y s =
        absurd (⊎_elim (λ l. y (f ∙ refusal-short (case_text c t) (length out) l))
        (λ l. x (f ∙ refusal-none (case_text c t) (length out) l)) (lt-or-le (length out) (length (case_text c t))))
    told (suc m) e f x y s =
        let w : u ≡ out = rw (by_output (length out), e) at h.out_is in
        rw (written_is, e) (rw (f, w) at s)

    pub written-refused : (refused_as a ≡ 0 → ⊥) → (refused_as a ≡ 19 → ⊥) → {q : Result ℕ Refusal} {v : List ℕ}
        → ReportShown (refusal_text (refused_as a) 0) u q v → ReportShown (written_text c t) out q v
    written-refused = told case_refusal refl answered

-- one refusal has the number 19
pub number_short : (e : Refusal) → number_of e ≡ 19 → (e ≡ Refusal.ShortOutput → ⊥) → ⊥
number_short Refusal.ShortOutput h k = k refl
number_short Refusal.ShortTable h k = omega (arith, h)
number_short Refusal.LongFile h k = omega (arith, h)
number_short Refusal.LongLine h k = omega (arith, h)
number_short Refusal.StrangeByte h k = omega (arith, h)
number_short Refusal.NoForm h k = omega (arith, h)
number_short Refusal.LongName h k = omega (arith, h)
number_short Refusal.DeepFormula h k = omega (arith, h)
number_short Refusal.ManyNames h k = omega (arith, h)
number_short Refusal.ManyRules h k = omega (arith, h)
number_short Refusal.ManyQueries h k = omega (arith, h)
number_short Refusal.NoQuery h k = omega (arith, h)
number_short Refusal.ManySettings h k = omega (arith, h)
number_short Refusal.Unsound h k = omega (arith, h)
number_short Refusal.NoSetting h k = omega (arith, h)
number_short Refusal.ShortWork h k = omega (arith, h)
number_short Refusal.HighPrice h k = omega (arith, h)
number_short Refusal.SecondCost h k = omega (arith, h)
number_short Refusal.LongText h k = omega (arith, h)
number_short Refusal.ManyLiterals h k = omega (arith, h)
number_short Refusal.SecondEdition h k = omega (arith, h)
number_short Refusal.NoLoad h k = omega (arith, h)
number_short Refusal.ShortLoadOutput h k = omega (arith, h)
