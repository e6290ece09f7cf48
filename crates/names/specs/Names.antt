-- Names in the order of first appearance.
-- From: document 01, "Interpretations and the step" ("An atom is a number 0 to 63, given to names in the order of first
-- appearance") and "Case tables" (names, 64 × 16 bytes, row i for atom i, zero-filled at the end).
--
--   some_long ws        some name is over 16 bytes
--   atom_of ns w        the number of the first of the names ns that is w, or how many there are
--   with_name ns w      w behind the names ns, unless it is one of them
--   with_names ns ws    the names ws added one after the other
--   rows_of ns          16 bytes for each name
use Rattle.std.specs.Prelude.{Bool, false, ◌||◌, List, [], ◌∷◌, ◌++◌, ℕ, ltb, length}
use Rattle.words.specs.Choice.{pick}
use Rattle.text.specs.Words.{place_of}
use Rattle.table.specs.Filled.{padded}

unfoldable pub some_long : List (List ℕ) → Bool
some_long [] = false
some_long (w ∷ ws) = ltb 16 (length w) || some_long ws

abbrev pub atom_of : List (List ℕ) → List ℕ → ℕ
atom_of ns w = place_of ns w

unfoldable pub with_name : List (List ℕ) → List ℕ → List (List ℕ)
with_name ns w = pick (ltb (atom_of ns w) (length ns)) ns (ns ++ (w ∷ []))

unfoldable pub with_names : List (List ℕ) → List (List ℕ) → List (List ℕ)
with_names ns [] = ns
with_names ns (w ∷ ws) = with_names (with_name ns w) ws

unfoldable pub rows_of : List (List ℕ) → List ℕ
rows_of [] = []
rows_of (n ∷ ns) = padded 16 n ++ rows_of ns
