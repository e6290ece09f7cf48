-- What the inner functions promise of a path of dependencies among the atoms w, by a table t of dependents.
--
--   Stuck t w            each atom of w depends on one of them
--   Followed ..          a path of distinct atoms of w, each depends on the next, and the last on the atom at
--   Ringed t w n u       the first n of the entries u are a ring of atoms of w, the others 0
use Rattle.std.specs.Prelude.{◌≡◌, true, List, ℕ, ◌+◌, ◌^◌, ◌≤◌, ◌<◌, length, get_or}
use Rattle.std.specs.Int.Count.{ones}
use Rattle.words.specs.Bits.{has}
use Rattle.words.specs.OneBit.{BitOf}
use Rattle.table.specs.Filled.{padded}
use Rattle.layering.specs.Layers.{Ring}
use Rattle.layering.specs.Numbers.{linked_by}

abbrev pub Stuck : List ℕ → ℕ → Type 0
Stuck t w = (a : ℕ) → BitOf w a → (b : ℕ) × BitOf w b × (linked_by t a b ≡ true)

-- the path has len atoms, which are those of the word seen
pub record Followed (t : List ℕ) (w : ℕ) (path : List ℕ) (len seen at : ℕ) : Type 0 where
  pub size_is : length path ≡ 64
  pub seen-fits : seen < 2 ^ 64
  pub few : len ≤ ones seen
  pub stuck : BitOf w at
  pub found : (a : ℕ) → has seen a ≡ true → (j : ℕ) × (j < len) × (get_or path j 0 ≡ a)
  pub path_in : (i : ℕ) → i < len → (has seen (get_or path i 0) ≡ true) × BitOf w (get_or path i 0)
  pub distinct : (i j : ℕ) → i < j → j < len → get_or path i 0 ≡ get_or path j 0 → ⊥
  pub linked : (i : ℕ) → i + 1 < len → linked_by t (get_or path i 0) (get_or path (i + 1) 0) ≡ true
  pub last : (i : ℕ) → i + 1 ≡ len → linked_by t (get_or path i 0) at ≡ true

pub record Ringed (t : List ℕ) (w n : ℕ) (u : List ℕ) : Type 0 where
  pub ring : List ℕ
  pub ring-is : Ring 64 (linked_by t) ring
  pub among : (i : ℕ) → i < length ring → has w (get_or ring i 0) ≡ true
  pub count-is : n ≡ length ring
  pub entries_are : u ≡ padded 64 ring
