-- Laws of the text of a file, whichever text stands for what it says: a file that is too long, one that is read, one
-- that is cut behind the limit, and the text's length. Assumes nothing.
use mathlib.Core.Path.{◌≡◌, refl, sym, ap, ◌∙◌}
use mathlib.Core.List.{List, []}
use mathlib.Core.Logic.{⊎_elim}
use Prim.Native.Nat.{ℕ, zero, suc, ◌≤◌, ◌<◌}
use native.Mathlib.Omega.{arith}
use lib.ListN.{length, take}
use lib.Seq.{take_all, length-take-le}
use borrow.Author.Tests.{lt-leb, le-leb}
use Rattle.words.specs.Choice.{unless_refused}
use Rattle.words.proofs.Checks.{first-failed-here, first-failed-behind}
use Rattle.words.proofs.Tests.{lt-or-le}
use Rattle.store.specs.Saying.{Said}
use Rattle.reader.specs.Reading.{Outcome, refusal_of, line_of_refusal, read_file}
use Rattle.wording.specs.Text.{refusal_text}
use Rattle.wording.proofs.Lengths.{refusal-length}
use Rattle.report.specs.Report.{outcome_text, file_refusal, file_text}

file-refusal-long : (f : List ℕ) → 32768 < length f → file_refusal f ≡ 2
file-refusal-long f h = first-failed-here 2 [] (lt-leb (length f) 32768 h)

-- a file that isn't refused by its length
pub file-short : (f : List ℕ) → file_refusal f ≡ 0 → length f ≤ 32768
file-short f e = ⊎_elim (λ h. absurd (omega (arith, file-refusal-long f h))) (λ h. h) (lt-or-le 32768 (length f))

module _ (said : Said → List ℕ) where
  -- the text of the file f, where the refusal of its length is n
  abbrev text_with : List ℕ → ℕ → List ℕ
  text_with f n = unless_refused n (outcome_text said (read_file f)) (refusal_text n 0)

  pub file-long : (f : List ℕ) → 32768 < length f → file_text said f ≡ refusal_text 2 0
  unfolding file_text
  file-long f h = ap (text_with f) (file-refusal-long f h)

  pub file-read : (f : List ℕ) → length f ≤ 32768 → file_text said f ≡ outcome_text said (read_file f)
  unfolding file_text
  file-read f h = ap (text_with f) (first-failed-behind 2 [] (le-leb (length f) 32768 h))

  pub outcome-refused : (o : Outcome) → (refusal_of o ≡ 0 → ⊥)
      → refusal_text (refusal_of o) (line_of_refusal o) ≡ outcome_text said o
  outcome-refused (Outcome.case st) h = absurd (h refl)
  outcome-refused (Outcome.refused n k) h = refl

  -- the first k bytes of a file give its text, where k is over the limit
  pub file-cut : (f : List ℕ) (k : ℕ) → 32768 < k → file_text said (take k f) ≡ file_text said f
  file-cut f k h = ⊎_elim long short (lt-or-le k (length f))
    where
      long : k < length f → file_text said (take k f) ≡ file_text said f
      long l =
          let e = length-take-le k f (omega arith) in
          file-long (take k f) (omega arith) ∙ sym (file-long f (omega arith))

      short : length f ≤ k → file_text said (take k f) ≡ file_text said f
      short l = ap (file_text said) (take_all k f l)

  -- m is no less than the length of a refusal's text, nor than that of what the file says
  module _ (f : List ℕ) (m : ℕ) (room : 52 ≤ m)
      (fits : (st : Said) → file_refusal f ≡ 0 → read_file f ≡ Outcome.case st → length (said st) ≤ m) where
    outcome-length : (o : Outcome) → file_refusal f ≡ 0 → read_file f ≡ o → length (outcome_text said o) ≤ m
    outcome-length (Outcome.case st) z e = fits st z e
    outcome-length (Outcome.refused n k) z e = omega (arith, refusal-length n k)

    text_with-length : (n : ℕ) → file_refusal f ≡ n → length (text_with f n) ≤ m
    text_with-length zero z = outcome-length (read_file f) z refl
    text_with-length (suc n) z = omega (arith, refusal-length (suc n) 0)

    pub file-length : length (file_text said f) ≤ m
    unfolding file_text
    file-length = text_with-length (file_refusal f) refl
