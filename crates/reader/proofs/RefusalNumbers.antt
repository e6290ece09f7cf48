-- The number of a refusal of reading is never 0. Assumes nothing.
use mathlib.Core.Path.{◌≡◌, refl, subst}
use mathlib.Core.List.{List}
use Prim.Native.Nat.{ℕ, zero, suc}
use native.Mathlib.Omega.{arith}
use Rattle.text.specs.Lines.{lines}
use Rattle.store.specs.Saying.{Said, nothing_said}
use Rattle.reader.specs.Reading.{Outcome, or_else, end_refusal, ending, read_file}
use Rattle.reader.specs.Claims.{said_through}
use Rattle.reader.proofs.FirstBad.{read_cases}

abbrev pub Numbered : Outcome → Type 0
Numbered (Outcome.case st) = Unit {0}
Numbered (Outcome.refused n k) = n ≡ 0 → ⊥

or_else-numbered : (n : ℕ) (st : Said) → Numbered (or_else n 0 (Outcome.case st))
or_else-numbered zero st = tt
or_else-numbered (suc n) st = λ e. omega arith

ending-numbered : (st : Said) → Numbered (ending st)
unfolding ending
ending-numbered st = or_else-numbered (end_refusal st) st

pub file-numbered : (f : List ℕ) → Numbered (read_file f)
file-numbered f =
    read_cases f _ refl (λ h d. subst Numbered d (ending-numbered (said_through (lines f) nothing_said)))
    (λ n k b d. subst Numbered d b.not-zero)
