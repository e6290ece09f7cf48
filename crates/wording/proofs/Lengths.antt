-- Laws of the length of a report's lines. Assumes nothing.
use mathlib.Core.List.{List, [], ◌∷◌, ◌++◌}
use mathlib.Core.Logic.{⊎_elim}
use Prim.Native.Nat.{ℕ, zero, suc, ◌+◌, ◌*◌, ◌^◌, ◌≤◌, ◌<◌}
use native.Mathlib.Nat.{mul-suc, pow-le-pow_right, zero-lt-suc}
use native.Mathlib.Omega.{arith}
use lib.ListN.{length, length-append}
use Rattle.words.proofs.Tests.{lt-or-le}
use Rattle.program.specs.declared.cause.Causes.{Causes}
use Rattle.program.specs.Cause.{atoms_in}
use Rattle.program.specs.Setting.{digits_of, settings_of}
use Rattle.program.proofs.Settings.{choices_many, settings-product}
use Rattle.text.specs.Bytes.{bytes}
use Rattle.output.specs.Decimal.{decimal}
use Rattle.output.specs.Forms.{spaced, line}
use Rattle.output.proofs.Decimals.{decimal-length, decimal-short}
use Rattle.output.proofs.FormTexts.{spaced_nil, spaced-more, spaced-one, spaced-two, form-length, line-length}
use Rattle.wording.specs.declared.Totals.{Totals}
use Rattle.wording.specs.Text.{lines_of, verdict_word, verdict_line, verdict_lines, rounds_line, decided_line}
use Rattle.wording.specs.Text.{minimal_line, cheapest_line, cheapest_lines}
use Rattle.wording.specs.Text.{with_abducible, abducibles, cause_line, cause_lines, answer_text, refusal_text}

-- Lines

pub lines-length : (f : ℕ → List ℕ) (k : ℕ) → ((x : ℕ) → length (f x) ≤ k) → (l : List ℕ)
    → length (lines_of f l) ≤ k * length l
unfolding lines_of
lines-length f k h [] = omega arith
lines-length f k h (x ∷ l) = rw (length-append, mul-suc) (omega (arith, h x, lines-length f k h l))

verdict_word-length : (v : ℕ) → length (verdict_word v) ≤ 11
verdict_word-length zero = omega arith
verdict_word-length (suc zero) = omega arith
verdict_word-length (suc (suc zero)) = omega arith
verdict_word-length (suc (suc (suc v))) = omega arith

verdict_line-length : (v : ℕ) → length (verdict_line v) ≤ 22
unfolding verdict_line
verdict_line-length v = rw (line-length, spaced-one) (omega (arith, verdict_word-length v))

-- one number of at most k digits behind a word
number-line-length : (w : List ℕ) (n k : ℕ) → length (decimal n) ≤ k
    → length (line w (decimal n ∷ [])) ≤ length w + k + 4
number-line-length w n k h = rw (line-length, spaced-one) (omega arith)

minimal-line-length : (m w : ℕ) → m < 10 ^ 5 → w < 10 ^ 4 → length (minimal_line m w) ≤ 21
unfolding minimal_line
minimal-line-length m w h k =
    rw (line-length, spaced-two) (omega (arith, decimal-short 4 m h, decimal-short 3 w k))

cheapest_length : (m c : ℕ) → length (cheapest_lines m c) ≤ 32
unfolding cheapest_lines cheapest_line
cheapest_length zero c = omega arith
cheapest_length (suc m) c = number-line-length (bytes "cheapest") c 20 (decimal-length c)

pub refusal-length : (n k : ℕ) → length (refusal_text n k) ≤ 52
unfolding refusal_text
refusal-length n k = rw (line-length, spaced-two) (omega (arith, decimal-length n, decimal-length k))

-- rounds, decided atoms and minimal explanations of t have at most 7, 7 and 5 digits
pub record Short (t : Totals) : Type 0 where
  pub rounds-short : t.rounds < 10 ^ 7
  pub decided-short : t.decided < 10 ^ 7
  pub minimal-short : t.minimal < 10 ^ 5

-- Settings, with names of at most 16 bytes

with_abducible-length : (d : ℕ) (w : List ℕ) (ps : List (List ℕ)) → length w ≤ 16
    → length (spaced (with_abducible d w ps)) ≤ 25 + length (spaced ps)
with_abducible-length zero w ps h = omega arith
with_abducible-length (suc zero) w ps h = rw (spaced-more, form-length, spaced-one) (omega arith)
with_abducible-length (suc (suc d)) w ps h = rw (spaced-more, form-length, spaced-one) (omega arith)

-- with at most 59,049 settings there are at most 15 causes, as each has two choices or more
causes_few : (w : Causes) → settings_of w ≤ 59049 → length (atoms_in w.all) ≤ 15
causes_few w h =
    ⊎_elim (λ (l : length (atoms_in w.all) < 16). omega arith)
    (λ (l : 16 ≤ length (atoms_in w.all)).
    absurd (omega (
      arith,
      h,
      settings-product w,
      choices_many w.twofold (atoms_in w.all),
      pow-le-pow_right (zero-lt-suc 1) l,
    )))
    (lt-or-le (length (atoms_in w.all)) 16)

module _ (name : ℕ → List ℕ) (short : (a : ℕ) → length (name a) ≤ 16) where
  abducibles-length : (l ds : List ℕ) → length (spaced (abducibles name l ds)) ≤ 25 * length l
  unfolding abducibles
  abducibles-length [] ds = rw spaced_nil (omega arith)
  abducibles-length (a ∷ l) [] = rw spaced_nil (omega arith)
  abducibles-length (a ∷ l) (d ∷ ds) =
      omega (arith, with_abducible-length d (name a) (abducibles name l ds) (short a), abducibles-length l ds)

  module _ (w : Causes) (few : settings_of w ≤ 59049) where
    cause_line-length : (s : ℕ) → length (cause_line name w s) ≤ 383
    unfolding cause_line
    cause_line-length s =
        rw line-length (omega (arith, causes_few w few, abducibles-length (atoms_in w.all) (digits_of w s)))

    pub answer-length : (vs : List ℕ) (t : Totals) (l : List ℕ) → length vs ≤ 16 → Short t → length l ≤ 1024
        → length (answer_text name w vs t l) ≤ 392640
    unfolding answer_text rounds_line decided_line
    answer-length vs t l g s f =
        let rounds = rounds_line t.rounds in
        let decided = decided_line t.decided in
        let minimals = minimal_line t.minimal (length l) in
        let causes = cause_lines name w l in
        let cheapest = cheapest_lines t.minimal t.cost in
        omega (
          arith,
          length-append (verdict_lines vs) (rounds ++ (decided ++ (minimals ++ (causes ++ cheapest)))),
          length-append rounds (decided ++ (minimals ++ (causes ++ cheapest))),
          length-append decided (minimals ++ (causes ++ cheapest)),
          length-append minimals (causes ++ cheapest),
          length-append causes cheapest,
          lines-length verdict_line 22 verdict_line-length vs,
          number-line-length (bytes "rounds") t.rounds 7 (decimal-short 6 t.rounds s.rounds-short),
          number-line-length (bytes "decided") t.decided 7 (decimal-short 6 t.decided s.decided-short),
          minimal-line-length t.minimal (length l) s.minimal-short (omega arith),
          lines-length (cause_line name w) 383 cause_line-length l,
          cheapest_length t.minimal t.cost,
        )
