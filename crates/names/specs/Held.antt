-- A names table that holds names.
-- From: document 01, "Case tables" (names, 64 × 16 bytes, row i for atom i, zero-filled at the end).
--
--   Named w             w is at most 16 bytes long and has no byte 0
--   Holds ns t          the bytes of the table t that reading fills are the rows of the names ns and zeros
use Rattle.std.specs.Prelude.{◌≡◌, List, [], ◌∷◌, ℕ, ◌≤◌, length}
use Rattle.program.specs.Case.{name_size}
use Rattle.table.specs.Filled.{filled}
use Rattle.names.specs.Names.{rows_of}

pub data NoZero : List ℕ → Type 0 where
  none : NoZero []
  more : {b : ℕ} {w : List ℕ} → (b ≡ 0 → ⊥) → NoZero w → NoZero (b ∷ w)

pub record Named (w : List ℕ) : Type 0 where
  pub short : length w ≤ 16
  pub no_zero : NoZero w

pub data AllNamed : List (List ℕ) → Type 0 where
  none : AllNamed []
  more : {w : List ℕ} {ns : List (List ℕ)} → Named w → AllNamed ns → AllNamed (w ∷ ns)

pub record Holds (ns : List (List ℕ)) (t : List ℕ) : Type 0 where
  pub all_named : AllNamed ns
  pub few : length ns ≤ 64
  pub table_is : t ≡ filled name_size (rows_of ns) t
