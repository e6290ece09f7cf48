-- Laws of taking lines one after the other: the file's outcome is that of the lines left, behind what was read.
-- Assumes nothing.
use mathlib.Core.Path.{◌≡◌, refl, sym, ap, ap₂, ◌∙◌}
use mathlib.Core.List.{List, ◌∷◌}
use Prim.Native.Nat.{ℕ, zero, suc, ◌+◌, ◌-◌, ◌≤◌}
use native.Mathlib.Numerals.{add-one}
use native.Mathlib.Omega.{arith}
use lib.ListN.{length, replicate, take, drop}
use Rattle.std.specs.Prelude.{Result, Ok, Err}
use Rattle.refusals.specs.declared.Refusal.{Refusal}
use Rattle.refusals.specs.Refusal.{number_of}
use Rattle.refusals.proofs.Numbers.{number_some}
use Rattle.text.specs.Lines.{lines}
use Rattle.text.specs.Scanning.{LineEnds}
use Rattle.text.proofs.Slices.{part_slice}
use Rattle.program.specs.declared.case.Case.{Case}
use Rattle.table.proofs.Filled.{padded-zeros}
use Rattle.store.specs.Lent.{Lent}
use Rattle.store.specs.Saying.{Said, nothing_said}
use Rattle.store.specs.Tables.{case_with, case_said}
use Rattle.store.specs.Held.{Long, Kept}
use Rattle.store.proofs.Held.{held_in_limits}
use Rattle.store.proofs.FilledLent.{kept_refl-all, kept_trans-all}
use Rattle.store.proofs.Saying.{last_none}
use Rattle.store.proofs.KeptTables.{SameLengths, kept_lengths, kept-long}
use Rattle.checks.specs.declared.progress.Progress.{Progress}
use Rattle.checks.specs.Checks.{line_refusal, said_after}
use Rattle.checks.specs.Progress.{Reached, Bounded}
use Rattle.checks.specs.Took.{Took, TakenAs}
use Rattle.checks.proofs.Costed.{none_costed}
use Rattle.reader.specs.declared.read.Refused.{Refused}
use Rattle.reader.specs.Reading.{Outcome, or_else, read_lines, read_file}
use Rattle.reader.specs.Steps.{Ready, FileTaken}

-- read_lines

pub or_else-refused : (n k : ℕ) (o : Outcome) → (n ≡ 0 → ⊥) → or_else n k o ≡ Outcome.refused n k
or_else-refused zero k o h = absurd (h refl)
or_else-refused (suc n) k o h = refl

module _ (l : List ℕ) (ls : List (List ℕ)) (st : Said) (k : ℕ) where
  pub lines-go : line_refusal st l ≡ 0 → read_lines (l ∷ ls) st k ≡ read_lines ls (said_after st l) (k + 1)
  unfolding read_lines
  lines-go e = rw (add-one, e)

  pub lines_stop : (line_refusal st l ≡ 0 → ⊥) → read_lines (l ∷ ls) st k ≡ Outcome.refused (line_refusal st l) k
  unfolding read_lines
  lines_stop h = or_else-refused (line_refusal st l) k (read_lines ls (said_after st l) (suc k)) h

-- FileTaken

pub refused-taken : (f : List ℕ) (t u : Lent) (r : Refusal) (k : ℕ) → read_file f ≡ Outcome.refused (number_of r) k
    → Kept t u → FileTaken f t u (Err (record { refusal = r; line = k }))
refused-taken f t u r k e s = record {
  answer-is = rw e (record { refusal_is = refl; line-is = refl; case-is = tt });
  kept = s;
  tables_are = tt;
}

pub file_lengths : {f : List ℕ} {t u : Lent} {r : Result Case Refused} → FileTaken f t u r → SameLengths t u
file_lengths {f} {t} {u} h = kept_lengths t u h.kept

-- the place at of the file f, not too long, and the number line of the line there
pub record Places (f : List ℕ) (at line : ℕ) : Type 0 where
  pub short : length f ≤ 32768
  pub near : at ≤ length f + 1
  pub counted : line ≤ at + 1

-- what is known, p and the tables t, when the lines of the file f before place at are taken, line the next line's
-- number, behind the tables t₀
pub record LinesTaken (f : List ℕ) (t₀ t : Lent) (p : Progress) (at line : ℕ) : Type 0 where
  pub places : Places f at line
  pub long : Long t
  pub said : Said
  pub reached : Reached said p t
  pub kept : Kept t₀ t
  pub rest-is : read_file f ≡ read_lines (lines (drop at f)) said line

-- before the first line
abbrev pub nothing_read : Case
nothing_read = case_with 0 0 0 0 0 0 (replicate 16 0) 1

nothing_read-said : nothing_read ≡ case_said nothing_said
nothing_read-said = ap₂ (case_with 0 0 0 0 0 0) (padded-zeros 16) (sym (last_none 1))

abbrev pub no_progress : Progress
no_progress = record { found = nothing_read; costed = 0; editions = 0 }

pub no_lines_taken : {f : List ℕ} {t : Lent} → Ready f t → LinesTaken f t t no_progress 0 1
unfolding read_file
no_lines_taken {f} {t} h = record {
  places = record { short = h.short; near = omega arith; counted = omega arith };
  long = h.long;
  said = nothing_said;
  reached = record {
    held = rw nothing_read-said h.held;
    costed_are = none_costed;
    editions_are = refl;
    editions-few = omega arith;
  };
  kept = kept_refl-all t;
  rest-is = refl;
}

pub taken_bounded : {f : List ℕ} {t₀ t : Lent} {p : Progress} {at line : ℕ} → LinesTaken f t₀ t p at line → Bounded p
taken_bounded {f} {t₀} {t} {p} i = record {
  found-few = held_in_limits i.said p.found t i.reached.held;
  editions-few = i.reached.editions-few;
}

-- the line w of f from place at to place e is taken
module _ {f : List ℕ} {t₀ t u : Lent} {p : Progress} {at e line : ℕ} {r : Result Progress Refusal}
    (i : LinesTaken f t₀ t p at line)
    (l : LineEnds f at e)
    (k : TakenAs (λ st. line_refusal st (take (e - at) (drop at f))) (λ st. said_after st (take (e - at) (drop at f))) p
    t r u) where
  abbrev w : List ℕ
  w = take (e - at) (drop at f)

  here : read_file f ≡ read_lines (w ∷ lines (drop (e + 1) f)) i.said line
  here = i.rest-is ∙ ap (λ (m : List (List ℕ)). read_lines m i.said line)
      (l.lines_are ∙ ap (λ (x : List ℕ). x ∷ lines (drop (e + 1) f)) (sym (part_slice f at e l.onward)))

  took : Took (line_refusal i.said w) (said_after i.said w) r u
  took = k.took i.said i.reached

  next-places : Places f (e + 1) (line + 1)
  next-places = record {
    short = i.places.short;
    near = omega (arith, l.within);
    counted = omega (arith, l.onward, i.places.counted);
  }

  pub line_taken : {q : Progress} → r ≡ Ok q → LinesTaken f t₀ u q (e + 1) (line + 1)
  line_taken {q} z =
      let n : line_refusal i.said w ≡ 0 = sym (rw z at took.refusal_is) in
      record {
        places = next-places;
        long = kept-long t u k.kept i.long;
        said = said_after i.said w;
        reached = rw z at took.reached;
        kept = kept_trans-all t₀ t i.kept u k.kept;
        rest-is = here ∙ lines-go w (lines (drop (e + 1) f)) i.said line n;
      }

  pub line_refused : {x : Refusal} → r ≡ Err x → FileTaken f t₀ u (Err (record { refusal = x; line = line }))
  line_refused {x} z =
      let m : number_of x ≡ line_refusal i.said w = rw z at took.refusal_is in
      let some : line_refusal i.said w ≡ 0 → ⊥ = λ y. let s = number_some x in omega arith in
      let n = lines_stop w (lines (drop (e + 1) f)) i.said line some in
      refused-taken f t₀ u x line (here ∙ n ∙ ap (λ (j : ℕ). Outcome.refused j line) (sym m))
      (kept_trans-all t₀ t i.kept u k.kept)
