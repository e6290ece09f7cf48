-- Laws of what is shown of a report's text: refusal 19 where the output is too short, otherwise the text in front of
-- what the output had behind it. Assumes nothing.
use mathlib.Core.Path.{◌≡◌, refl, ◌∙◌}
use mathlib.Core.List.{List, []}
use mathlib.Core.Logic.{⊎_elim}
use Prim.Native.Nat.{ℕ, ◌≤◌, ◌<◌}
use native.Mathlib.Omega.{arith}
use lib.ListN.{length, take}
use borrow.Author.Tests.{le-leb, lt-leb}
use Rattle.words.proofs.Checks.{first-failed-here, first-failed-behind}
use Rattle.words.proofs.Tests.{lt-or-le}
use Rattle.std.specs.Prelude.{Result, Ok, Err, IsOk}
use Rattle.refusals.specs.declared.Refusal.{Refusal}
use Rattle.refusals.proofs.Numbers.{number_some}
use Rattle.output.specs.Writing.{Writes}
use Rattle.output.proofs.Showing.{written-length, shown-refused, shown-written}
use Rattle.output.proofs.Showing.{shown-within}
use Rattle.report.specs.Operation.{report_refusal, ReportShown}

pub refusal-short : (t : List ℕ) (n : ℕ) → n < length t → report_refusal t n ≡ 19
unfolding report_refusal
refusal-short t n h = first-failed-here 19 [] (lt-leb (length t) n h)

pub refusal-none : (t : List ℕ) (n : ℕ) → length t ≤ n → report_refusal t n ≡ 0
unfolding report_refusal
refusal-none t n h = first-failed-behind 19 [] (le-leb (length t) n h)

-- the text t, whose length n is known from writing it to a spare output, and the output
module _ {t out spare spareAfter : List ℕ} {n : ℕ} (w : Writes t spare 0 n spareAfter) where
  pub report_short : length out < n → ReportShown t out (Err Refusal.ShortOutput) out
  report_short h =
      rw (refusal-short t (length out) (omega (arith, written-length w))) (shown-refused Refusal.ShortOutput t out)

  pub report_written : {m : ℕ} {outAfter : List ℕ} → n ≤ length out → Writes t out 0 m outAfter
      → ReportShown t out (Ok m) outAfter
  report_written h v =
      rw (refusal-none t (length out) (omega (arith, written-length w)))
      (shown-written (written-length v) (omega (arith, written-length w, written-length v)) v)

-- what is answered as the length lies within the output
pub report_within : {t out u : List ℕ} {m : ℕ} → ReportShown t out (Ok m) u → m ≤ length u
report_within {t} {out} s = shown-within (report_refusal t (length out)) s (λ e. ⊎_elim
    (λ h. absurd (omega (arith, refusal-short t (length out) h)))
    (λ h. h)
    (lt-or-le (length out) (length t)))

-- a report that the output is long enough for is not refused
pub report_is_ok : {t out u : List ℕ} (r : Result ℕ Refusal) → ReportShown t out r u → length t ≤ length out → IsOk r
report_is_ok (Ok m) s h = refl
report_is_ok {t} {out} (Err e) s h = let n = number_some e in
    absurd (omega (arith, s.refusal_is, refusal-none t (length out) h))
