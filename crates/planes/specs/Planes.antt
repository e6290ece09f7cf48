-- Planes: for each atom a word, bit j of which is lane j.
--
--   at t j a                                 bit j of the word of atom a
--   column t f j                             the interpretation in lane j of the planes t and f
--   Planes t f                               in no lane an atom is both true and false
--   Sizes t f                                both planes have 64 words
--   Is r j x                                 the lanes r have the value x in lane j
--   Worth r w                                in each lane j they have the value w j
--   some_missing t w j, some_present t w j   an atom of w is missing, is present, in lane j of the plane t
--   Joined ..                                the atoms of a word joined by "and" to a value in lanes
use Rattle.std.specs.Prelude.{◌≡◌, Bool, not, ◌&&◌, ◌||◌, List, ℕ, ◌<◌, length, get_or}
use Rattle.words.specs.Below.{any}
use Rattle.words.specs.Bits.{has, word}
use Rattle.logic.specs.declared.value.Value.{Value}
use Rattle.logic.specs.declared.interpretation.Interpretation.{Interpretation}
use Rattle.logic.specs.Value.{is_true, is_false}
use Rattle.logic.specs.Interpretation.{Disjoint}
use Rattle.planes.specs.declared.plane.Lanes.{Lanes}

abbrev pub at : List ℕ → ℕ → ℕ → Bool
at t j a = has (get_or t a 0) j

abbrev pub column : List ℕ → List ℕ → ℕ → Interpretation
column t f j = record { trues = word 64 (at t j); falses = word 64 (at f j) }

abbrev pub Planes : List ℕ → List ℕ → Type 0
Planes t f = (j : ℕ) → j < 64 → Disjoint (column t f j)

pub record Sizes (t f : List ℕ) : Type 0 where
  pub first-size : length t ≡ 64
  pub second-size : length f ≡ 64

pub record Is (r : Lanes) (j : ℕ) (x : Value) : Type 0 where
  pub is_true : has r.trues j ≡ is_true x
  pub is_false : has r.falses j ≡ is_false x

abbrev pub Worth : Lanes → (ℕ → Value) → Type 0
Worth r w = (j : ℕ) → j < 64 → Is r j (w j)

abbrev pub some_missing : List ℕ → ℕ → ℕ → Bool
some_missing t w j = any 64 (λ i. has w i && not (at t j i))

abbrev pub some_present : List ℕ → ℕ → ℕ → Bool
some_present t w j = any 64 (λ i. has w i && at t j i)

pub record Joined (t f : List ℕ) (w : ℕ) (b r : Lanes) : Type 0 where
  pub trues_are : (j : ℕ) → not (has r.trues j) ≡ (some_missing t w j || not (has b.trues j))
  pub falses_are : (j : ℕ) → has r.falses j ≡ (some_present f w j || has b.falses j)
