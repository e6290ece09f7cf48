-- Names as lines of their own, and names that agree for the 64 atoms: they give the same text. Assumes nothing.
use mathlib.Core.Path.{◌≡◌, refl, ap, ap₂, ◌∙◌}
use mathlib.Core.List.{List, [], ◌∷◌, ◌++◌, map}
use Prim.Native.Nat.{ℕ, suc, ◌<◌}
use native.Mathlib.Nat.{zero-lt-suc}
use native.Mathlib.Omega.{arith}
use lib.ListN.{length, get_or}
use Rattle.program.specs.declared.cause.Causes.{Causes}
use Rattle.program.specs.Cause.{atoms_in}
use Rattle.program.specs.Setting.{digits_of}
use Rattle.program.proofs.Atoms.{atoms-below}
use Rattle.text.specs.Bytes.{bytes}
use Rattle.output.specs.Forms.{spaced}
use Rattle.output.proofs.FormTexts.{spaced_nil, spaced-parts}
use Rattle.wording.specs.declared.Totals.{Totals}
use Rattle.wording.specs.Text.{lines_of, with_abducible, abducibles, cause_line, answer_text}

-- ---- lines that agree for the entries of a list
pub lines_alike : (f g : ℕ → List ℕ) (l : List ℕ) → ((i : ℕ) → i < length l → f (get_or l i 0) ≡ g (get_or l i 0))
    → lines_of f l ≡ lines_of g l
unfolding lines_of
lines_alike f g [] h = refl
lines_alike f g (x ∷ l) h =
    ap₂ ◌++◌ (h 0 (zero-lt-suc (length l))) (lines_alike f g l (λ i k. h (suc i) (omega arith)))

-- ---- the name of an atom with a space before it
abbrev pub spaced_name : (ℕ → List ℕ) → ℕ → List ℕ
spaced_name name a = bytes " " ++ name a

pub spaced-lines : (name : ℕ → List ℕ) (l : List ℕ) → spaced (map name l) ≡ lines_of (spaced_name name) l
unfolding lines_of
spaced-lines name [] = spaced_nil
spaced-lines name (a ∷ l) =
    spaced-parts (name a) (map name l) ∙ ap (λ (t : List ℕ). bytes " " ++ (name a ++ t)) (spaced-lines name l)

-- ---- names that agree
module _ (f g : ℕ → List ℕ) (agree : (a : ℕ) → a < 64 → f a ≡ g a) where
  abducibles_alike : (l ds : List ℕ) → ((i : ℕ) → i < length l → get_or l i 0 < 64)
      → abducibles f l ds ≡ abducibles g l ds
  unfolding abducibles
  abducibles_alike [] ds h = refl
  abducibles_alike (a ∷ l) [] h = refl
  abducibles_alike (a ∷ l) (d ∷ ds) h =
      ap₂ (with_abducible d) (agree a (h 0 (zero-lt-suc (length l))))
      (abducibles_alike l ds (λ i k. h (suc i) (omega arith)))

  cause_line_alike : (w : Causes) (s : ℕ) → cause_line f w s ≡ cause_line g w s
  unfolding cause_line
  cause_line_alike w s = rw (abducibles_alike (atoms_in w.all) (digits_of w s) (atoms-below w.all))

  pub answer_alike : (w : Causes) (vs : List ℕ) (t : Totals) (l : List ℕ)
      → answer_text f w vs t l ≡ answer_text g w vs t l
  unfolding answer_text
  answer_alike w vs t l =
      rw (lines_alike (cause_line f w) (cause_line g w) l (λ i k. cause_line_alike w (get_or l i 0)))
