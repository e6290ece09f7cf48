-- Laws of the rows of names: their bytes, and those of a table that is filled with them. Assumes nothing.
use mathlib.Core.Path.{◌≡◌, refl, sym, ap, ◌∙◌}
use mathlib.Core.List.{List, [], ◌∷◌, ◌++◌}
use Prim.Native.Nat.{ℕ, zero, suc, ◌+◌, ◌*◌, ◌≤◌, ◌<◌}
use native.Mathlib.Nat.{not-suc-le-zero, le_of_suc-le-suc}
use native.Mathlib.Omega.{arith}
use lib.ListN.{length, take, drop, get_or}
use lib.Seq.{take-take, take_at, drop-append-add}
use Rattle.program.specs.Case.{name_size}
use Rattle.text.proofs.Slices.{slice_take}
use Rattle.table.specs.Filled.{filled, padded}
use Rattle.table.proofs.Filled.{filled-take, padded-length, padded-append, padded-none}
use Rattle.table.proofs.Rows.{RowTable}
use Rattle.names.specs.Names.{rows_of}
use Rattle.names.specs.Row.{row_at}

pub name-rows : RowTable 16 (padded 16) rows_of
unfolding rows_of
name-rows = record { none_is = refl; more_are = λ w ns. refl; width = padded-length 16 }

-- the first row of a table, and the others
table_none : (n : ℕ) → padded (16 * suc n) [] ≡ padded 16 [] ++ padded (16 * n) []
table_none n = let e : 16 * suc n ≡ 16 + 16 * n = omega arith in rw e (padded-none 16 (16 * n))

table-row : (n : ℕ) (w l : List ℕ) → padded (16 * suc n) (padded 16 w ++ l) ≡ padded 16 w ++ padded (16 * n) l
table-row n w l =
    let e : 16 * suc n ≡ 16 + 16 * n = omega arith in
    rw e (padded-append 16 (16 * n) (padded 16 w) l (padded-length 16 w))

row_first : (w l : List ℕ) → take 16 (padded 16 w ++ l) ≡ padded 16 w
row_first w l = take_at (padded 16 w) l 16 (padded-length 16 w)

row-behind : (w l : List ℕ) (i : ℕ) → take 16 (drop (16 * suc i) (padded 16 w ++ l)) ≡ take 16 (drop (16 * i) l)
row-behind w l i =
    let e : 16 * suc i ≡ length (padded 16 w) + 16 * i = omega (arith, padded-length 16 w) in
    rw (e, drop-append-add)

-- a table of n rows, where those past the names are zero
pub rows-padded : (n : ℕ) (ns : List (List ℕ)) (i : ℕ) → i < n
    → take 16 (drop (16 * i) (padded (16 * n) (rows_of ns))) ≡ padded 16 (get_or ns i [])
unfolding rows_of
rows-padded zero ns i h = absurd (not-suc-le-zero h)
rows-padded (suc n) [] zero h = rw (table_none n) (row_first [] (padded (16 * n) []))
rows-padded (suc n) [] (suc i) h =
    rw (table_none n) (row-behind [] (padded (16 * n) []) i ∙ rows-padded n [] i (le_of_suc-le-suc h) ∙ refl)
rows-padded (suc n) (w ∷ ns) zero h = rw (table-row n w (rows_of ns)) (row_first w (padded (16 * n) (rows_of ns)))
rows-padded (suc n) (w ∷ ns) (suc i) h =
    rw (table-row n w (rows_of ns))
    (row-behind w (padded (16 * n) (rows_of ns)) i ∙ rows-padded n ns i (le_of_suc-le-suc h))

-- row i of a table filled with the names ns is name i and zeros
pub filled_row : (ns : List (List ℕ)) (old : List ℕ) (i : ℕ) → name_size ≤ length old → i < 64
    → row_at (filled name_size (rows_of ns) old) i ≡ padded 16 (get_or ns i [])
filled_row ns old i k h =
    let t = filled name_size (rows_of ns) old in
    let e : i * 16 ≡ 16 * i = omega arith in
    let front = filled-take name_size (rows_of ns) old k in
    let f = sym (take-take (i * 16 + 16) name_size t (omega arith)) ∙ ap (take (i * 16 + 16)) front in
    ap (drop (i * 16)) f ∙ slice_take (i * 16) 16 (padded name_size (rows_of ns)) ∙ rw e (rows-padded 64 ns i h)
