-- Names that agree for the 64 atoms give the same text, and a bound on its length, so that it has room.
-- Assumes nothing.
use mathlib.Core.Path.{◌≡◌, refl, sym, ap, ◌∙◌}
use mathlib.Core.Bool.{Bool, true, false}
use mathlib.Core.List.{List, [], ◌∷◌, ◌++◌, map}
use Prim.Native.Nat.{ℕ, ◌≤◌, ◌<◌}
use native.Mathlib.Omega.{arith}
use lib.ListN.{length, get_or, length-append}
use Rattle.words.specs.Lists.{list_of}
use Rattle.words.proofs.Lists.{list_of-length, list_of-at}
use Rattle.text.specs.Bytes.{bytes}
use Rattle.names.specs.Row.{name_in}
use Rattle.names.proofs.RowNames.{name-short}
use Rattle.output.specs.Decimal.{decimal}
use Rattle.output.specs.Forms.{line, spaced}
use Rattle.output.specs.Writing.{Room}
use Rattle.output.proofs.Decimals.{decimal-length}
use Rattle.output.proofs.FormTexts.{line_end, line-parts, line-length, spaced_nil, spaced-two}
use Rattle.wording.proofs.Lengths.{lines-length}
use Rattle.wording.proofs.Naming.{lines_alike, spaced_name, spaced-lines}
use Rattle.layer_report.specs.Text.{layer_line, layer_lines, numbers_text, ring_text}
use Rattle.layer_report.specs.Entries.{Atoms, entries_text}

-- names that agree
module _ (f g : ℕ → List ℕ) (agree : (a : ℕ) → a < 64 → f a ≡ g a) where
  layer_line_alike : (ks : List ℕ) (a : ℕ) → a < 64 → layer_line f ks a ≡ layer_line g ks a
  unfolding layer_line
  layer_line_alike ks a h =
      ap (λ (w : List ℕ). line (bytes "layer") (w ∷ (decimal (get_or ks a 0) ∷ []))) (agree a h)

  numbers_alike : (ks : List ℕ) → length ks ≤ 64 → numbers_text f ks ≡ numbers_text g ks
  unfolding numbers_text
  numbers_alike ks h =
      ap (λ (t : List ℕ). line (bytes "layered") [] ++ t)
      (lines_alike (layer_line f ks) (layer_line g ks) (list_of (length ks) (λ a. a)) (λ i k.
      let n = list_of-length (length ks) (λ a. a) in
      layer_line_alike ks _ (rw (list_of-at (length ks) (λ a. a) i 0 (omega arith)) (omega arith))))

  ring_alike : (l : List ℕ) → Atoms l → ring_text f l ≡ ring_text g l
  unfolding ring_text
  ring_alike l h =
      line-parts (bytes "ring") (map f l)
      ∙ ap (λ (t : List ℕ). bytes "(ring" ++ (t ++ line_end)) names_same
      ∙ sym (line-parts (bytes "ring") (map g l))
    where
      same : (i : ℕ) → i < length l → spaced_name f (get_or l i 0) ≡ spaced_name g (get_or l i 0)
      same i k = ap (λ (w : List ℕ). bytes " " ++ w) (agree (get_or l i 0) (h.below i k))

      names_same : spaced (map f l) ≡ spaced (map g l)
      names_same =
          spaced-lines f l ∙ lines_alike (spaced_name f) (spaced_name g) l same ∙ sym (spaced-lines g l)

  pub entries_alike : (b : Bool) (l : List ℕ) → length l ≤ 64 → (b ≡ false → Atoms l)
      → entries_text f b l ≡ entries_text g b l
  entries_alike true l h k = numbers_alike l h
  entries_alike false l h k = ring_alike l (k refl)

-- names of at most 16 bytes
module _ (name : ℕ → List ℕ) (short : (a : ℕ) → length (name a) ≤ 16) where
  layer_line-length : (ks : List ℕ) (a : ℕ) → length (layer_line name ks a) ≤ 46
  unfolding layer_line
  layer_line-length ks a = rw (line-length, spaced-two) (omega (arith, short a, decimal-length (get_or ks a 0)))

  numbers-length : (ks : List ℕ) → length ks ≤ 64 → length (numbers_text name ks) ≤ 2954
  unfolding numbers_text
  numbers-length ks h =
      omega (
        arith,
        length-append (line (bytes "layered") []) (layer_lines name ks),
        line-length (bytes "layered") [],
        ap length spaced_nil,
        lines-length (layer_line name ks) 46 (layer_line-length ks) (list_of (length ks) (λ a. a)),
        list_of-length (length ks) (λ a. a),
      )

  ring-length : (l : List ℕ) → length l ≤ 64 → length (ring_text name l) ≤ 2954
  unfolding ring_text
  ring-length l h =
      omega (
        arith,
        line-length (bytes "ring") (map name l),
        ap length (spaced-lines name l),
        lines-length (spaced_name name) 17 (λ a. omega (arith, short a)) l,
      )

  pub entries_length : (b : Bool) (l : List ℕ) → length l ≤ 64 → length (entries_text name b l) ≤ 2954
  entries_length true l h = numbers-length l h
  entries_length false l h = ring-length l h

-- names by the table t
module _ (t l : List ℕ) (h : length l ≤ 64) where
  pub numbers_fit : Room (numbers_text (name_in t) l) 0
  numbers_fit = omega (arith, numbers-length (name_in t) (name-short t) l h)

  pub ring-fits : Room (ring_text (name_in t) l) 0
  ring-fits = omega (arith, ring-length (name_in t) (name-short t) l h)
