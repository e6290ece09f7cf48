-- How the lines of a list are written, one by one, and the text of an answer as the pieces that the code writes.
-- Assumes nothing.
use mathlib.Core.Path.{◌≡◌}
use mathlib.Core.List.{List, [], ◌∷◌, ◌++◌, append-nil}
use Prim.Native.Nat.{ℕ, ◌+◌, ◌≤◌, ◌<◌}
use native.Mathlib.Numerals.{add-one}
use native.Mathlib.Omega.{arith}
use lib.ListN.{length, drop, get_or, drop_of_length-le, length-append}
use lib.Seq.{drop-cons}
use Rattle.program.specs.declared.cause.Causes.{Causes}
use Rattle.output.specs.Decimal.{decimal}
use Rattle.output.specs.Writing.{Writes, text_limit, Room}
use Rattle.output.proofs.Laying.{writes-append}
use Rattle.wording.specs.Text.{lines_of, verdict_line, verdict_lines, rounds_line, decided_line, minimal_line}
use Rattle.wording.specs.declared.Totals.{Totals}
use Rattle.wording.specs.Text.{cause_lines, cheapest_lines, answer_text}
use Rattle.wording.proofs.Progress.{Underway, underway-start, underway-room, underway-more, underway-end}
use Rattle.wording.proofs.LineTexts.{number_text, pair_text, rounds_opening, decided_opening, minimal_opening}
use Rattle.wording.proofs.LineTexts.{rounds-text, decided-text, minimal-text}

module _ (f : ℕ → List ℕ) (list : List ℕ) (k : ℕ) where
  lines_more : k < length list → lines_of f (drop k list) ≡ f (get_or list k 0) ++ lines_of f (drop (k + 1) list)
  unfolding lines_of
  lines_more l = rw (drop-cons list k 0 l, add-one)

  lines_none : length list ≤ k → lines_of f (drop k list) ≡ []
  unfolding lines_of
  lines_none l = rw (drop_of_length-le list l)

-- ---- the walk over a list
-- the lines of the list are written to out from place at on; those from entry k on are left, and come to out₁ from
-- place m on
pub record AtLine (f : ℕ → List ℕ) (list out : List ℕ) (at k m : ℕ) (out₁ : List ℕ) : Type 0 where
  pub within : k ≤ length list
  pub underway : Underway (lines_of f list) out at (lines_of f (drop k list)) m out₁

module _ (f : ℕ → List ℕ) where
  pub line-start : (list out : List ℕ) (at : ℕ) → AtLine f list out at 0 at out
  line-start list out at = record { within = omega arith; underway = underway-start _ _ _ }

  module _ {at k m : ℕ} {list out out₁ : List ℕ} (h : AtLine f list out at k m out₁) where
    pub line-room : k < length list → Room (lines_of f list) at → Room (f (get_or list k 0)) m
    line-room l r =
        underway-room h.underway (f (get_or list k 0)) (lines_of f (drop (k + 1) list)) (lines_more f list k l) r

    pub line-more : {r : ℕ} {out₂ : List ℕ} → k < length list → Writes (f (get_or list k 0)) out₁ m r out₂
        → AtLine f list out at (k + 1) r out₂
    line-more l t = record {
      within = omega arith;
      underway = underway-more h.underway (lines_more f list k l) t;
    }

    pub line-end : length list ≤ k → Writes (lines_of f list) out at m out₁
    line-end l = underway-end h.underway (lines_none f list k l)

-- ---- the text of an answer
-- where the line of the numbers x and y ends
pub minimal-ends : (x y : ℕ) {at r : ℕ} {out u : List ℕ} → Writes (pair_text minimal_opening x y) out at r u
    → r ≡ at + (length (decimal x) + length (decimal y) + 12)
minimal-ends x y h = omega (arith, simp length-append at h.place_is)

-- where the line of the number n ends
pub number-ends : (opening : List ℕ) (n : ℕ) {at r : ℕ} {out u : List ℕ} → Writes (number_text opening n) out at r u
    → r ≡ at + (length opening + length (decimal n) + 2)
number-ends opening n h = omega (arith, simp length-append at h.place_is)

-- an answer that lists the settings of a list
module _ (name : ℕ → List ℕ) (w : Causes) (vs : List ℕ) (t : Totals) (list : List ℕ) where
  answer-text : answer_text name w vs t list
      ≡ verdict_lines vs
      ++ (number_text rounds_opening t.rounds
      ++ (number_text decided_opening t.decided
      ++ (pair_text minimal_opening t.minimal (length list)
      ++ (cause_lines name w list ++ cheapest_lines t.minimal t.cost))))
  unfolding answer_text
  answer-text = rw (rounds-text, decided-text, minimal-text)

  pub answer-room : {at : ℕ} → Room (answer_text name w vs t list) at
      → at + (length (verdict_lines vs) + length (decimal t.rounds) + 10 + length (decimal t.decided) + 11
      + length (decimal t.minimal) + length (decimal (length list)) + 12 + length (cause_lines name w list)
      + length (cheapest_lines t.minimal t.cost))
      ≤ text_limit
  answer-room h = omega (arith, simp length-append at (rw answer-text at h.fits))

  pub answer-written : {out out₁ out₂ out₃ out₄ out₅ out₆ : List ℕ} {at i j k n o e : ℕ}
      → Writes (verdict_lines vs) out at i out₁ → Writes (number_text rounds_opening t.rounds) out₁ i j out₂
      → Writes (number_text decided_opening t.decided) out₂ j k out₃
      → Writes (pair_text minimal_opening t.minimal (length list)) out₃ k n out₄
      → Writes (cause_lines name w list) out₄ n o out₅ → Writes (cheapest_lines t.minimal t.cost) out₅ o e out₆
      → Writes (answer_text name w vs t list) out at e out₆
  answer-written first second third fourth lines last =
      rw answer-text
      (writes-append first
      (writes-append second (writes-append third (writes-append fourth (writes-append lines last)))))

-- an answer on one query
pub answer-one : (name : ℕ → List ℕ) (w : Causes) (v : ℕ) (t : Totals) (l : List ℕ)
    → answer_text name w (v ∷ []) t l
    ≡ verdict_line v
    ++ (rounds_line t.rounds
    ++ (decided_line t.decided
    ++ (minimal_line t.minimal (length l) ++ (cause_lines name w l ++ cheapest_lines t.minimal t.cost))))
unfolding answer_text lines_of
answer-one name w v t l = rw append-nil
