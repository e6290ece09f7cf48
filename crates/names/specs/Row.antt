-- The rows of a names table: the names in them, the row of a name, and names put into rows.
-- From: document 01, "Case tables" (names, 64 × 16 bytes, row i for atom i, zero-filled at the end).
--
--   row_at t i          row i of the table t, 16 bytes
--   name_in t a         the name in row a of the table t: its bytes before the first zero, at most 16
--   row_of t n w        the first of the n rows of the table t that holds the name w, n where none does
--   Rows                a table and how many of its rows hold names
--   rows_with s w       s with the name w, in a row behind the others unless one holds it
--   rows_through s ws   s with the names ws one after the other, up to the first for which there is no room
use Rattle.std.specs.Prelude.{List, [], ◌∷◌, ℕ, zero, suc, ◌+◌, ◌*◌, leb, ltb, take, drop}
use Rattle.std.proofs.lemmas.List.Edits.{sets}
use Rattle.std.proofs.Math.Seq.{slice}
use Rattle.words.specs.Below.{first}
use Rattle.words.specs.Choice.{pick}
use Rattle.text.specs.Bytes.{same_bytes}
use Rattle.table.specs.Filled.{padded}

abbrev pub row_at : List ℕ → ℕ → List ℕ
row_at t i = slice (i * 16) (i * 16 + 16) t

-- the bytes of a row before its first zero
unfoldable pub before_zero : List ℕ → List ℕ
before_zero [] = []
before_zero (zero ∷ l) = []
before_zero (suc b ∷ l) = suc b ∷ before_zero l

abbrev pub name_in : List ℕ → ℕ → List ℕ
name_in t a = before_zero (take 16 (drop (16 * a) t))

unfoldable pub row_of : List ℕ → ℕ → List ℕ → ℕ
row_of t n w = first n (λ i. same_bytes (row_at t i) (padded 16 w))

pub record Rows : Type 0 where
  pub count : ℕ
  pub table : List ℕ

abbrev pub rows : ℕ → List ℕ → Rows
rows n t = record { count = n; table = t }

-- s with the name w in the row behind the others, the count 65 where all 64 rows are taken
unfoldable pub next_row : Rows → List ℕ → Rows
next_row s w =
    let stored = rows (s.count + 1) (sets s.table (s.count * 16) (padded 16 w)) in
    pick (ltb s.count 64) stored (rows 65 s.table)

unfoldable pub rows_with : Rows → List ℕ → Rows
rows_with s w = pick (ltb (row_of s.table s.count w) s.count) s (next_row s w)

unfoldable pub rows_through : Rows → List (List ℕ) → Rows
rows_through s [] = s
rows_through s (w ∷ ws) =
    let next = rows_with s w in
    let more = rows_through next ws in
    pick (leb next.count 64) more next
