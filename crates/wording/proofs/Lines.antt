-- How each line of a report, and each form in one, is written: the room that its pieces take, and the pieces one behind
-- another. Assumes nothing.
use mathlib.Core.Path.{◌≡◌}
use mathlib.Core.List.{List, [], ◌++◌}
use Prim.Native.Nat.{ℕ, ◌+◌, ◌≤◌}
use native.Mathlib.Omega.{arith}
use lib.ListN.{length, length-append}
use Rattle.program.specs.declared.cause.Causes.{Causes}
use Rattle.program.specs.Cause.{atoms_in}
use Rattle.program.specs.Setting.{digits_of}
use Rattle.text.specs.Bytes.{bytes}
use Rattle.output.specs.Decimal.{decimal}
use Rattle.output.specs.Forms.{spaced}
use Rattle.output.specs.Writing.{Writes, text_limit, Room}
use Rattle.output.proofs.Decimals.{decimal-length}
use Rattle.output.proofs.FormTexts.{line_end}
use Rattle.output.proofs.Laying.{writes-append}
use Rattle.wording.specs.Text.{verdict_word, verdict_line, with_abducible, abducibles, cause_line}
use Rattle.wording.specs.Text.{cheapest_lines, refusal_text}
use Rattle.wording.proofs.LineTexts.{verdict_opening, cheapest_opening, refused_opening, cause_opening, fact_opening}
use Rattle.wording.proofs.LineTexts.{assumption_opening, number_text, pair_text, verdict_text, open_word}
use Rattle.wording.proofs.LineTexts.{cheapest_text, refusal-text, cause_text, fact-text, assumption-text}

-- three pieces
pieces_room : (s t u : List ℕ) {at : ℕ} → Room (s ++ (t ++ u)) at → at + (length s + length t + length u) ≤ text_limit
pieces_room s t u r = omega (arith, length-append s (t ++ u), length-append t u)

module _ {out out₁ out₂ out₃ : List ℕ} {at i j r : ℕ} where
  pieces_written : {s t u : List ℕ} → Writes s out at i out₁ → Writes t out₁ i j out₂ → Writes u out₂ j r out₃
      → Writes (s ++ (t ++ u)) out at r out₃
  pieces_written a b c = writes-append a (writes-append b c)

  pub number-written : (opening : List ℕ) (n : ℕ) → Writes opening out at i out₁ → Writes (decimal n) out₁ i j out₂
      → Writes line_end out₂ j r out₃ → Writes (number_text opening n) out at r out₃
  number-written opening n a b c = pieces_written a b c

  pub cause_written : (name : ℕ → List ℕ) (w : Causes) (s : ℕ) → Writes cause_opening out at i out₁
      → Writes (spaced (abducibles name (atoms_in w.all) (digits_of w s))) out₁ i j out₂ → Writes line_end out₂ j r out₃
      → Writes (cause_line name w s) out at r out₃
  cause_written name w s a b c = rw cause_text (pieces_written a b c)

  pub form-written : (opening w : List ℕ) → Writes opening out at i out₁ → Writes w out₁ i j out₂
      → Writes (bytes ")") out₂ j r out₃ → Writes (opening ++ (w ++ bytes ")")) out at r out₃
  form-written opening w a b c = pieces_written a b c

pub number-room : (opening : List ℕ) (n : ℕ) {at : ℕ} → Room (number_text opening n) at
    → at + (length opening + length (decimal n) + 2) ≤ text_limit
number-room opening n h = pieces_room opening (decimal n) line_end h

pub cause_room : (name : ℕ → List ℕ) (w : Causes) (s : ℕ) {at : ℕ} → Room (cause_line name w s) at
    → at + (8 + length (spaced (abducibles name (atoms_in w.all) (digits_of w s)))) ≤ text_limit
cause_room name w s h =
    let text = spaced (abducibles name (atoms_in w.all) (digits_of w s)) in
    omega (arith, pieces_room cause_opening text line_end (rw cause_text at h))

pub form-room : (opening w : List ℕ) {at : ℕ} → Room (opening ++ (w ++ bytes ")")) at
    → at + (length opening + length w + 1) ≤ text_limit
form-room opening w h = pieces_room opening w (bytes ")") h

-- two numbers behind an opening
pub pair_room : (opening : List ℕ) (x y : ℕ) {at : ℕ} → Room (pair_text opening x y) at
    → at + (length opening + length (decimal x) + length (decimal y) + 3) ≤ text_limit
pair_room opening x y h =
    omega (arith, simp length-append at h.fits)

pub pair_written : {out out₁ out₂ out₃ out₄ out₅ : List ℕ} {at i j k l r : ℕ} (opening : List ℕ) (x y : ℕ)
    → Writes opening out at i out₁ → Writes (decimal x) out₁ i j out₂ → Writes (bytes " ") out₂ j k out₃
    → Writes (decimal y) out₃ k l out₄ → Writes line_end out₄ l r out₅ → Writes (pair_text opening x y) out at r out₅
pair_written opening x y a b c d e = writes-append a (writes-append b (writes-append c (writes-append d e)))

-- a refusal has two numbers of at most 20 digits each
pub refusal-room : (n k : ℕ) → Room (pair_text refused_opening n k) 0
refusal-room n k = record { fits = simp length-append (omega (arith, decimal-length n, decimal-length k)) }

pub refusal-written : (n k : ℕ) {at r : ℕ} {out u : List ℕ} → Writes (pair_text refused_opening n k) out at r u
    → Writes (refusal_text n k) out at r u
refusal-written n k w = rw refusal-text w

-- the line of the verdict with the number v, which is w, or none of 0 to 2
module _ (w : ℕ) {v at : ℕ} (e : v ≡ w) where
  pub verdict_room : Room (verdict_line v) at → Room (verdict_opening ++ (verdict_word w ++ line_end)) at
  verdict_room h = rw (e, verdict_text) at h

  pub verdict_written : {r : ℕ} {out u : List ℕ} → Writes (verdict_opening ++ (verdict_word w ++ line_end)) out at r u
      → Writes (verdict_line v) out at r u
  verdict_written h = rw (e, verdict_text) h

module _ {v at : ℕ} (p : v ≡ 0 → ⊥) (q : v ≡ 1 → ⊥) (o : v ≡ 2 → ⊥) where
  pub open_room : Room (verdict_line v) at → Room (verdict_opening ++ (bytes "open" ++ line_end)) at
  open_room h = rw (verdict_text, open_word v p q o) at h

  pub open_written : {r : ℕ} {out u : List ℕ} → Writes (verdict_opening ++ (bytes "open" ++ line_end)) out at r u
      → Writes (verdict_line v) out at r u
  open_written h = rw (verdict_text, open_word v p q o) h

-- the line of the lowest cost c among m minimal explanations, one or more
module _ (m c : ℕ) {at : ℕ} (p : m ≡ 0 → ⊥) where
  pub cheapest_room : Room (cheapest_lines m c) at → Room (number_text cheapest_opening c) at
  cheapest_room h = rw (cheapest_text m c p) at h

  pub cheapest_written : {r : ℕ} {out u : List ℕ} → Writes (number_text cheapest_opening c) out at r u
      → Writes (cheapest_lines m c) out at r u
  cheapest_written h = rw (cheapest_text m c p) h

-- what the digit d adds for the cause named w: a fact where it is 1, and an assumption where it is neither 0 nor 1
module _ (d : ℕ) (w : List ℕ) {at : ℕ} where
  pub fact-room : d ≡ 1 → Room (spaced (with_abducible d w [])) at → Room (fact_opening ++ (w ++ bytes ")")) at
  fact-room e h = rw (e, fact-text) at h

  pub fact-written : {r : ℕ} {out u : List ℕ} → d ≡ 1 → Writes (fact_opening ++ (w ++ bytes ")")) out at r u
      → Writes (spaced (with_abducible d w [])) out at r u
  fact-written e h = rw (e, fact-text) h

  pub assumption-room : (d ≡ 0 → ⊥) → (d ≡ 1 → ⊥) → Room (spaced (with_abducible d w [])) at
      → Room (assumption_opening ++ (w ++ bytes ")")) at
  assumption-room p q h = rw (assumption-text d w p q) at h

  pub assumption-written : {r : ℕ} {out u : List ℕ} → (d ≡ 0 → ⊥) → (d ≡ 1 → ⊥)
      → Writes (assumption_opening ++ (w ++ bytes ")")) out at r u → Writes (spaced (with_abducible d w [])) out at r u
  assumption-written p q h = rw (assumption-text d w p q) h
