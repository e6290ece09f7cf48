-- Laws of a table that holds names: a name compared with a row, its row, and one name more. Assumes nothing.
use mathlib.Core.Path.{◌≡◌, sym, ap, ◌∙◌}
use mathlib.Core.Bool.{true}
use mathlib.Core.List.{List, [], ◌∷◌, ◌++◌}
use Prim.Native.Nat.{ℕ, zero, suc, ◌+◌, ◌*◌, ◌≤◌, ◌<◌}
use native.Mathlib.Nat.{not-suc-le-zero, le_of_suc-le-suc, zero-add}
use native.Mathlib.Omega.{arith}
use lib.ListN.{length, get_or, length-append}
use lib.Seq.{slice, sets}
use Rattle.words.proofs.Tests.{gives_same}
use Rattle.program.specs.Case.{name_size}
use Rattle.text.specs.Bytes.{same_bytes}
use Rattle.text.proofs.Places.{first-place}
use Rattle.text.proofs.Same.{same_refl, same-eq}
use Rattle.table.specs.Filled.{padded}
use Rattle.table.proofs.Filled.{padded-length}
use Rattle.table.proofs.Kept.{sets-filled}
use Rattle.table.proofs.Rows.{rows-length, rows_push}
use Rattle.names.specs.Names.{atom_of, rows_of}
use Rattle.names.specs.Row.{row_at, before_zero, row_of}
use Rattle.names.specs.Held.{Named, AllNamed, Holds}
use Rattle.names.proofs.Rows.{name-rows, filled_row}
use Rattle.names.proofs.RowNames.{row-name}

-- Named

pub all-named-at : {ns : List (List ℕ)} → AllNamed ns → (i : ℕ) → i < length ns → Named (get_or ns i [])
all-named-at AllNamed.none i h = absurd (not-suc-le-zero h)
all-named-at (AllNamed.more g a) zero h = g
all-named-at (AllNamed.more g a) (suc i) h = all-named-at a i (le_of_suc-le-suc h)

all-named_push : {ns : List (List ℕ)} {w : List ℕ} → AllNamed ns → Named w → AllNamed (ns ++ (w ∷ []))
all-named_push AllNamed.none g = AllNamed.more g AllNamed.none
all-named_push (AllNamed.more f a) g = AllNamed.more f (all-named_push a g)

-- two names are the same where their rows are
pub same_row : {v w : List ℕ} → Named v → Named w → same_bytes (padded 16 v) (padded 16 w) ≡ same_bytes v w
same_row {v} {w} g h =
    let name-same : same_bytes (padded 16 v) (padded 16 w) ≡ true → v ≡ w =
    λ t. sym (row-name g) ∙ ap before_zero (same-eq _ _ t) ∙ row-name h
    in
    gives_same _ _ (λ t. rw (name-same t) (same_refl w)) (λ t. rw (same-eq v w t) (same_refl (padded 16 w)))

-- Holds

module _ {ns : List (List ℕ)} {t : List ℕ} (h : Holds ns t) (k : name_size ≤ length t) where
  pub held-row : (i : ℕ) → i < 64 → row_at t i ≡ padded 16 (get_or ns i [])
  held-row i l = ap (slice (i * 16) (i * 16 + 16)) h.table_is ∙ filled_row ns t i k l

  module _ {w : List ℕ} (g : Named w) where
    held_same : (i : ℕ) → i < length ns → same_bytes (row_at t i) (padded 16 w) ≡ same_bytes (get_or ns i []) w
    held_same i l =
        let f = h.few in
        rw (held-row i (omega arith)) (same_row (all-named-at h.all_named i l) g)

    -- a name's row is its number
    pub row-atom : row_of t (length ns) w ≡ atom_of ns w
    unfolding row_of
    row-atom = first-place ns w _ 0 (λ i l. rw zero-add (held_same i l)) ∙ zero-add (atom_of ns w)

    -- a name is stored in the row behind those that are there
    pub held_push : length ns < 64 → Holds (ns ++ (w ∷ [])) (sets t (length ns * 16) (padded 16 w))
    held_push l =
        let n : length ns * 16 ≡ length (rows_of ns) = omega (arith, rows-length name-rows ns) in
        let m = padded-length 16 w in
        record {
          all_named = all-named_push h.all_named g;
          few = rw (length-append ns (w ∷ [])) (omega arith);
          table_is = rw (n, rows_push name-rows ns w)
              (sets-filled name_size (rows_of ns) (padded 16 w) t (omega arith) k h.table_is);
        }
