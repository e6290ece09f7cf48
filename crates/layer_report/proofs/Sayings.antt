-- What is told of what an accepted file says: numbers or a ring, of at most 64 atoms. Assumes nothing.
use mathlib.Core.Path.{◌≡◌, refl}
use mathlib.Core.Bool.{Bool, true, false}
use mathlib.Core.List.{List}
use Prim.Native.Nat.{ℕ, ◌≤◌}
use native.Mathlib.Omega.{arith}
use lib.ListN.{length}
use Rattle.words.specs.Choice.{pick}
use Rattle.words.proofs.Lists.{list_of-length}
use Rattle.program.proofs.Soundness.{sound-atoms}
use Rattle.store.specs.Saying.{Said}
use Rattle.store.specs.Tables.{case_said}
use Rattle.reader.specs.Reading.{Outcome, read_file}
use Rattle.report.specs.Report.{clause_table, name_of}
use Rattle.report.proofs.Accepted.{said-sound, said-named}
use Rattle.layering.specs.Layers.{least_number}
use Rattle.layering.specs.Operation.{dependence, numbers_in}
use Rattle.layering.proofs.Rings.{ring-few}
use Rattle.layer_report.specs.Text.{numbers_text, ring_text}
use Rattle.layer_report.specs.Entries.{Atoms, entries_text}
use Rattle.layer_report.specs.Report.{layered_said, RingSaid, layers_said}
use Rattle.layer_report.proofs.Bounds.{entries_length}

-- the numbers where b says that the case is layered, otherwise the ring l
abbrev pub entries_said : Said → List ℕ → Bool → List ℕ
entries_said st l b = pick b (numbers_in (case_said st) (clause_table st)) l

told_by : (st : Said) (l : List ℕ) (b : Bool)
    → pick b (numbers_text (name_of st) (numbers_in (case_said st) (clause_table st))) (ring_text (name_of st) l)
    ≡ entries_text (name_of st) b (entries_said st l b)
told_by st l true = refl
told_by st l false = refl

pub layers_told : (st : Said) (l : List ℕ)
    → layers_said l st ≡ entries_text (name_of st) (layered_said st) (entries_said st l (layered_said st))
unfolding layers_said
layers_told st l = told_by st l (layered_said st)

pub numbers-count : (st : Said) → length (numbers_in (case_said st) (clause_table st)) ≡ (case_said st).atoms
numbers-count st =
    let n = (case_said st).atoms in
    list_of-length n (least_number n (dependence (case_said st) (clause_table st)))

module _ (f : List ℕ) (st : Said) (e : read_file f ≡ Outcome.case st) (l : List ℕ) where
  atoms-few : (case_said st).atoms ≤ 64
  atoms-few = (sound-atoms (case_said st) _ _ _ (said-sound f st e)).1

  pub entries_few : (b : Bool) → (b ≡ false → RingSaid st l) → length (entries_said st l b) ≤ 64
  entries_few true h = omega (arith, numbers-count st, atoms-few)
  entries_few false h = omega (arith, ring-few _ _ l (h refl), atoms-few)

  pub entries_atoms : (b : Bool) → (b ≡ false → RingSaid st l) → b ≡ false → Atoms (entries_said st l b)
  entries_atoms b h k = rw k (record { below = λ i j. omega (arith, (h k).atoms i j, atoms-few) })

  pub layers_length : (layered_said st ≡ false → RingSaid st l) → length (layers_said l st) ≤ 2954
  layers_length h =
      let b = layered_said st in
      rw (layers_told st l)
      (entries_length (name_of st) (λ a. (said-named f st e a).short) b (entries_said st l b) (entries_few b h))
