-- Laws of reading lines one after the other, both ways: where all pass the end decides, where one is bad it does, and
-- one of the two is so. Assumes nothing.
use mathlib.Core.Path.{◌≡◌, refl, sym, ap, ◌∙◌}
use mathlib.Core.Bool.{true}
use mathlib.Core.List.{List, [], ◌∷◌, ◌++◌, append-nil}
use mathlib.Core.Logic.{◌⊎◌, inl, inr, ⊎_elim}
use Prim.Native.Nat.{ℕ, zero, suc, ◌+◌}
use native.Mathlib.Omega.{arith}
use lib.Dec.{eqb}
use lib.ListN.{length, get_or, take}
use lib.Seq.{length-take-le, split_at}
use borrow.Author.Tests.{eqb-true, eq-eqb}
use Rattle.words.proofs.Tests.{and_true_l, and_true_r}
use Rattle.text.specs.Lines.{lines}
use Rattle.store.specs.Saying.{Said, nothing_said}
use Rattle.checks.specs.Checks.{line_refusal, said_after}
use Rattle.reader.specs.Reading.{Outcome, or_else, end_refusal, ending, read_lines, read_file}
use Rattle.reader.specs.Claims.{said_through, all_pass, BadAt, FirstBad}
use Rattle.reader.proofs.TakingLines.{lines-go, lines_stop}

-- a line in front of others: it passes, or it is the bad one
module _ (l : List ℕ) (ls : List (List ℕ)) (st : Said) where
  all_more : line_refusal st l ≡ 0 → all_pass ls (said_after st l) ≡ true → all_pass (l ∷ ls) st ≡ true
  unfolding all_pass
  all_more e h = rw (eq-eqb (line_refusal st l) 0 e, h)

  pub first_passes : all_pass (l ∷ ls) st ≡ true → (line_refusal st l ≡ 0) × (all_pass ls (said_after st l) ≡ true)
  unfolding all_pass
  first_passes h =
      let a = eqb (line_refusal st l) 0 in
      let b = all_pass ls (said_after st l) in
      (eqb-true _ 0 (and_true_l a b h), and_true_r a b h)

  bad_here : (n : ℕ) → line_refusal st l ≡ suc n → BadAt (l ∷ ls) st (suc n) 0
  unfolding all_pass said_through
  bad_here n e = record { there = omega arith; before-pass = refl; refused-with = e; not-zero = λ z. omega arith }

  bad_later : (n k : ℕ) → line_refusal st l ≡ 0 → BadAt ls (said_after st l) n k → BadAt (l ∷ ls) st n (suc k)
  unfolding all_pass said_through
  bad_later n k e b = record {
    there = omega (arith, b.there);
    before-pass = rw (eq-eqb (line_refusal st l) 0 e) b.before-pass;
    refused-with = b.refused-with;
    not-zero = b.not-zero;
  }

-- Both ways

-- behind lines that pass, the others are read
read_behind : (ls ms : List (List ℕ)) (st : Said) (k : ℕ) → all_pass ls st ≡ true
    → read_lines (ls ++ ms) st k ≡ read_lines ms (said_through ls st) (length ls + k)
unfolding said_through
read_behind [] ms st k h = let s : 0 + k ≡ k = omega arith in rw s
read_behind (l ∷ ls) ms st k h =
    let p = first_passes l ls st h in
    let s : length ls + (k + 1) ≡ length (l ∷ ls) + k = omega arith in
    lines-go l (ls ++ ms) st k p.0 ∙ read_behind ls ms (said_after st l) (k + 1) p.1 ∙ ap (read_lines ms _) s

all_read : (ls : List (List ℕ)) (st : Said) (k : ℕ) → all_pass ls st ≡ true
    → read_lines ls st k ≡ ending (said_through ls st)
unfolding read_lines
all_read ls st k h = rw append-nil at (read_behind ls [] st k h)

bad_read : (ls : List (List ℕ)) (st : Said) (n j k : ℕ) → BadAt ls st n j
    → read_lines ls st k ≡ Outcome.refused n (j + k)
bad_read ls st n j k b =
    let before = take j ls in
    ap (λ (m : List (List ℕ)). read_lines m st k) (split_at ls j [] b.there)
    ∙ read_behind before _ st k b.before-pass
    ∙ lines_stop (get_or ls j []) _ (said_through before st) _ (λ z. b.not-zero (sym b.refused-with ∙ z))
    ∙ rw (b.refused-with, length-take-le j ls (omega (arith, b.there)))

-- all of the lines pass, or one is the first bad one
abbrev AllOrBad : List (List ℕ) → Said → Type 0
AllOrBad ls st = (all_pass ls st ≡ true) ⊎ ((n : ℕ) × (k : ℕ) × BadAt ls st n k)

all-or_bad : (ls : List (List ℕ)) (st : Said) → AllOrBad ls st
unfolding all_pass
all-or_bad [] st = inl refl
all-or_bad (l ∷ ls) st = go (line_refusal st l) refl (all-or_bad ls (said_after st l))
  where
    go : (r : ℕ) → line_refusal st l ≡ r → AllOrBad ls (said_after st l) → AllOrBad (l ∷ ls) st
    go zero e (inl h) = inl (all_more l ls st e h)
    go zero e (inr b) = inr (b.0, suc b.1, bad_later l ls st b.0 b.1 e b.2)
    go (suc n) e h = inr (suc n, 0, bad_here l ls st n e)

-- A file

pub file-passes : (f : List ℕ) → all_pass (lines f) nothing_said ≡ true
    → read_file f ≡ ending (said_through (lines f) nothing_said)
unfolding read_file
file-passes f h = all_read (lines f) nothing_said 1 h

pub file_bad : (f : List ℕ) (n k : ℕ) → FirstBad f n k → read_file f ≡ Outcome.refused n (suc k)
unfolding read_file
file_bad f n k b =
    let s : k + 1 ≡ suc k = omega arith in
    bad_read (lines f) nothing_said n k 1 b ∙ ap (Outcome.refused n) s

-- all lines of a file pass and the end decides, or the first bad one does
pub read_cases : {P : Type 0} (f : List ℕ) (o : Outcome) → read_file f ≡ o
    → (all_pass (lines f) nothing_said ≡ true → ending (said_through (lines f) nothing_said) ≡ o → P)
    → ((n k : ℕ) → FirstBad f n k → Outcome.refused n (suc k) ≡ o → P) → P
read_cases f o e p q =
    ⊎_elim (λ h. p h (sym (file-passes f h) ∙ e))
    (λ b. q b.0 b.1 b.2 (sym (file_bad f b.0 b.1 b.2) ∙ e)) (all-or_bad (lines f) nothing_said)

-- The end

-- a line is refused, or passes and the rest decides
or_else_cases : {P : Type 0} (r k : ℕ) (rest o : Outcome) → or_else r k rest ≡ o → (r ≡ 0 → rest ≡ o → P)
    → ((n : ℕ) → r ≡ suc n → Outcome.refused (suc n) k ≡ o → P) → P
or_else_cases zero k rest o e f g = f refl e
or_else_cases (suc n) k rest o e f g = g n refl e

-- a case is no refusal
case-refused : (st : Said) (n k : ℕ) → Outcome.case st ≡ Outcome.refused n k → ⊥
case-refused st n k e = let z : ◌≡◌ {A = ℕ} 0 1 = cc in omega arith

-- an accepted end says what was read, and none of its checks fails
ending-said : (st s : Said) → ending st ≡ Outcome.case s → (end_refusal st ≡ 0) × (st ≡ s)
unfolding ending
ending-said st s e =
    or_else_cases (end_refusal st) 0 _ _ e (λ q d. (q, cc)) (λ n q d. absurd (case-refused s _ _ (sym d)))

-- a refusal after the last line has line 0
pub ending-line : (st : Said) (n k : ℕ) → ending st ≡ Outcome.refused n k → k ≡ 0
unfolding ending
ending-line st n k e =
    or_else_cases (end_refusal st) 0 _ _ e (λ q d. absurd (case-refused st n k d)) (λ m q d. cc)

-- all lines of an accepted file pass, what they say is what was read, and no check of the end fails
pub accepted_through : (f : List ℕ) (st : Said) → read_file f ≡ Outcome.case st
    → (all_pass (lines f) nothing_said ≡ true) × (end_refusal st ≡ 0) × (said_through (lines f) nothing_said ≡ st)
accepted_through f st e =
    read_cases f _ e (λ h d. let p = ending-said _ st d in (h, rw p.1 at p.0, p.1))
    (λ n k b d. absurd (case-refused st n (suc k) (sym d)))
