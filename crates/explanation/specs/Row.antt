-- The row of covered settings: a bit for each setting, that of setting s at place 59072 + s. The 923 words in front of
-- setting 0 are there so that a place less what a digit counts is a place too.
--
--   row_bit row k          the bit at place k of the row
--   setting_bit row s      the bit of setting s
--   CoveredRow p cs n row the bits of the settings below n say which are covered
--   Glued low high r z   z has the 64 bits from bit r of low on, with high behind low
--   dropped_at ..        the cause a has a digit in lane j whose dropping leads to a bit of the row
--   Droppable ..         r has the lanes in which that is so for some cause
--   Block ..             what is known of the 64 settings from first on, whose bits are word b of the row
--   Covers ..            what bringing them into the row answers and leaves
use Rattle.std.specs.Prelude.{◌≡◌, Bool, ◌&&◌, ◌||◌, List, ℕ, ◌+◌, ◌-◌, ◌*◌, ◌/◌, ◌%◌, ◌<◌, min, ltb, length, get_or}
use Rattle.words.specs.Choice.{pick}
use Rattle.words.specs.Below.{any}
use Rattle.words.specs.Bits.{has}
use Rattle.program.specs.declared.cause.Causes.{Causes}
use Rattle.program.specs.Setting.{choices_of, settings_of}
use Rattle.planes.specs.Planes.{at}
use Rattle.planes.specs.Fill.{Filled}
use Rattle.explanation.specs.Subset.{some_proper}
use Rattle.explanation.specs.Covering.{covers, Weights}

abbrev pub row_bit : List ℕ → ℕ → Bool
row_bit row k = has (get_or row (k / 64) 0) (k % 64)

abbrev pub setting_bit : List ℕ → ℕ → Bool
setting_bit row s = row_bit row (59072 + s)

abbrev pub CoveredRow : (ℕ → Bool) → List ℕ → ℕ → List ℕ → Type 0
CoveredRow p cs n row = (s : ℕ) → s < n → setting_bit row s ≡ covers p cs s

abbrev pub Glued : ℕ → ℕ → ℕ → ℕ → Type 0
Glued low high r z = (j : ℕ) → j < 64 → has z j ≡ pick (ltb (r + j) 64) (has low (r + j)) (has high (r + j - 64))

-- x and y are the planes of the facts and the assumptions, place that of lane 0
abbrev pub dropped_at : List ℕ → ℕ → List ℕ → List ℕ → List ℕ → ℕ → ℕ → Bool
dropped_at row place weights x y j a =
    at x j a && row_bit row (place - get_or weights a 0 + j)
    || at y j a && row_bit row (place - 2 * get_or weights a 0 + j)

pub record Droppable (row : List ℕ) (place causes : ℕ) (weights x y : List ℕ) (r : ℕ) : Type 0 where
  pub lanes_are : (j : ℕ) → j < 64 → has r j ≡ any 64 (λ a. has causes a && dropped_at row place weights x y j a)

-- e has the lanes that explain by the test p
pub record Block (p : ℕ → Bool) (first b e : ℕ) (causes : Causes) (weights x y row : List ℕ) : Type 0 where
  pub place_is : 59072 + first ≡ 64 * b
  pub filled : Filled causes first x y
  pub weights_are : Weights causes weights
  pub explains : (j : ℕ) → j < 64 → first + j < settings_of causes → has e j ≡ p (first + j)
  pub covered : CoveredRow p (choices_of causes) first row

-- r has the lanes of which a proper subset explains, row₁ is the row after it
pub record Covers (row : List ℕ) (b e : ℕ) (causes : Causes) (weights x y row₁ : List ℕ) (r : ℕ) : Type 0 where
  pub size_is : length row₁ ≡ 1848
  pub larger_is : (p : ℕ → Bool) (first : ℕ) → Block p first b e causes weights x y row
      → (j : ℕ) → j < 64 → first + j < settings_of causes
      → has r j ≡ some_proper p (choices_of causes) (first + j)
  pub covered : (p : ℕ → Bool) (first : ℕ) → Block p first b e causes weights x y row
      → CoveredRow p (choices_of causes) (min (first + 64) (settings_of causes)) row₁
