-- Laws of names put into the rows of a table: one name, and several one after the other. Assumes nothing.
use mathlib.Core.Path.{◌≡◌, refl, sym, ap, subst}
use mathlib.Core.List.{List, [], ◌∷◌}
use mathlib.Core.Logic.{⊎_elim}
use Prim.Native.Nat.{ℕ, ◌+◌, ◌*◌, ◌≤◌, ◌<◌}
use native.Mathlib.Omega.{arith}
use lib.ListN.{length, length-append}
use lib.Seq.{sets}
use borrow.Author.Tests.{lt-ltb, le-ltb, le-leb, lt-leb}
use Rattle.words.proofs.Tests.{lt-or-le}
use Rattle.program.specs.Case.{name_size}
use Rattle.text.proofs.Each.{Each}
use Rattle.table.specs.Filled.{filled, padded}
use Rattle.table.proofs.Filled.{padded-length}
use Rattle.table.proofs.Kept.{kept_refl, kept-length, kept_trans, sets-kept}
use Rattle.names.specs.Names.{atom_of, with_name, with_names}
use Rattle.names.specs.Row.{Rows, row_of, rows, next_row, rows_with, rows_through}
use Rattle.names.specs.Held.{Named, Holds}
use Rattle.names.proofs.Adding.{with_name-known, with_name-new, with_names-length}
use Rattle.names.proofs.Held.{row-atom, held_push}

-- rows_with

module _ (n : ℕ) (t w : List ℕ) where
  pub rows_with-known : row_of t n w < n → rows_with (rows n t) w ≡ rows n t
  unfolding rows_with
  rows_with-known h = rw (lt-ltb _ _ h)

  pub rows_with-full : n ≤ row_of t n w → 64 ≤ n → rows_with (rows n t) w ≡ rows 65 t
  unfolding rows_with next_row
  rows_with-full h k = rw (le-ltb _ _ h, le-ltb _ _ k)

  pub rows_with-new : n ≤ row_of t n w → n < 64
      → rows_with (rows n t) w ≡ rows (n + 1) (sets t (n * 16) (padded 16 w))
  unfolding rows_with next_row
  rows_with-new h k = rw (le-ltb _ _ h, lt-ltb _ _ k)

-- rows_through

pub through_none : (s : Rows) → rows_through s [] ≡ s
unfolding rows_through
through_none s = refl

module _ (s next : Rows) (w : List ℕ) (ws : List (List ℕ)) (e : next ≡ rows_with s w) where
  pub through_more : next.count ≤ 64 → rows_through s (w ∷ ws) ≡ rows_through next ws
  unfolding rows_through
  through_more h = rw (← e, le-leb _ _ h)

  pub through_full : 64 < next.count → rows_through s (w ∷ ws) ≡ next
  unfolding rows_through
  through_full h = rw (← e, lt-leb _ _ h)

-- only the bytes of the rows change

with_kept : (n : ℕ) (t w : List ℕ) → let u = (rows_with (rows n t) w).table in u ≡ filled name_size u t
with_kept n t w =
    let m = padded-length 16 w in
    let new : n ≤ row_of t n w → n < 64
    → (rows_with (rows n t) w).table ≡ filled name_size (rows_with (rows n t) w).table t =
    λ h k. rw (rows_with-new n t w h k) (sets-kept name_size (padded 16 w) t (n * 16) (omega arith))
    in
    ⊎_elim
    (λ h. rw (rows_with-known n t w h) (kept_refl name_size t))
    (λ h. ⊎_elim (new h) (λ k. rw (rows_with-full n t w h k) (kept_refl name_size t)) (lt-or-le n 64))
    (lt-or-le (row_of t n w) n)

through_kept : (ws : List (List ℕ)) (s : Rows) → let u = (rows_through s ws).table in u ≡ filled name_size u s.table
through_kept [] s = rw (through_none s) (kept_refl name_size s.table)
through_kept (w ∷ ws) s =
    let next = rows_with s w in
    let k = with_kept s.count s.table w in
    ⊎_elim
    (λ h. rw (through_full s next w ws refl h) k)
    (λ h. rw (through_more s next w ws refl h) (kept_trans name_size s.table k (through_kept ws next)))
    (lt-or-le 64 next.count)

pub rows-kept : (n : ℕ) (t : List ℕ) (ws : List (List ℕ)) (r : ℕ) (u : List ℕ)
    → rows r u ≡ rows_through (rows n t) ws → u ≡ filled name_size u t
rows-kept n t ws r u e =
    subst (λ (s : Rows). s.table ≡ filled name_size s.table t) (sym e) (through_kept ws (rows n t))

-- s holds the names ms, or they are too many
pub record Interned (ms : List (List ℕ)) (s : Rows) : Type 0 where
  pub fits : s.count ≤ 64 → length ms ≡ s.count
  pub held : s.count ≤ 64 → Holds ms s.table
  pub full : 64 < s.count → 64 < length ms

interned-held : {ns : List (List ℕ)} {t : List ℕ} → Holds ns t → Interned ns (rows (length ns) t)
interned-held h = record { fits = λ _. refl; held = λ _. h; full = λ l. absurd (omega (arith, h.few)) }

interned-over : {ms : List (List ℕ)} {s : Rows} → 64 < s.count → 64 < length ms → Interned ms s
interned-over l k = record { fits = λ p. absurd (omega arith); held = λ p. absurd (omega arith); full = λ _. k }

-- one name more
module _ {ns : List (List ℕ)} {t w : List ℕ} (h : Holds ns t) (k : name_size ≤ length t) (g : Named w) where
  one_known : atom_of ns w < length ns → Interned (with_name ns w) (rows_with (rows (length ns) t) w)
  one_known l =
      let e = row-atom h k g in
      rw (with_name-known ns w l, rows_with-known (length ns) t w (omega arith)) (interned-held h)

  one_stored : length ns ≤ atom_of ns w → length ns < 64
      → Interned (with_name ns w) (rows_with (rows (length ns) t) w)
  one_stored l q =
      let e = row-atom h k g in
      rw (with_name-new ns w l, rows_with-new (length ns) t w (omega arith) q, ← length-append ns (w ∷ []))
      (interned-held (held_push h k g q))

  one-refused : length ns ≤ atom_of ns w → 64 ≤ length ns
      → Interned (with_name ns w) (rows_with (rows (length ns) t) w)
  one-refused l q =
      let e = row-atom h k g in
      rw (with_name-new ns w l, rows_with-full (length ns) t w (omega arith) q)
      (interned-over (omega arith) (rw (length-append ns (w ∷ [])) (omega arith)))

  one-interned : Interned (with_name ns w) (rows_with (rows (length ns) t) w)
  one-interned =
      ⊎_elim
      one_known
      (λ l. ⊎_elim (one_stored l) (one-refused l) (lt-or-le (length ns) 64))
      (lt-or-le (atom_of ns w) (length ns))

  -- and more behind it
  module _ (ws : List (List ℕ)) where
    several_full : 64 < (rows_with (rows (length ns) t) w).count
        → Interned (with_names (with_name ns w) ws) (rows_through (rows (length ns) t) (w ∷ ws))
    several_full q =
        let l = with_names-length (with_name ns w) ws in
        let m = one-interned.full q in
        rw (through_full (rows (length ns) t) _ w ws refl q) (interned-over q (omega arith))

    several_more : let s = rows_with (rows (length ns) t) w in
        s.count ≤ 64
        → Interned (with_names (with_name ns w) ws) (rows_through (rows (length (with_name ns w)) s.table) ws)
        → Interned (with_names (with_name ns w) ws) (rows_through (rows (length ns) t) (w ∷ ws))
    several_more q i =
        let s = rows_with (rows (length ns) t) w in
        let e : rows (length (with_name ns w)) s.table ≡ s = ap (λ n. rows n s.table) (one-interned.fits q) in
        rw (through_more (rows (length ns) t) s w ws refl q, ← e) i

several_interned : (ws ns : List (List ℕ)) (t : List ℕ) → Holds ns t → name_size ≤ length t → Each Named ws
    → Interned (with_names ns ws) (rows_through (rows (length ns) t) ws)
unfolding with_names
several_interned [] ns t h k g = rw (through_none (rows (length ns) t)) (interned-held h)
several_interned (w ∷ ws) ns t h k g =
    let s = rows_with (rows (length ns) t) w in
    let l = kept-length name_size t (with_kept (length ns) t w) in
    let more : s.count ≤ 64 → Interned (with_names (with_name ns w) ws) (rows_through (rows (length ns) t) (w ∷ ws)) =
    λ q.
    several_more h k g.0 ws q
    (several_interned ws (with_name ns w) s.table ((one-interned h k g.0).held q) (omega arith) g.1)
    in
    ⊎_elim (several_full h k g.0 ws) more (lt-or-le 64 s.count)

-- r is how many names there are with those of a line, and u the table
abbrev pub LineInterned : List (List ℕ) → List (List ℕ) → ℕ → List ℕ → Type 0
LineInterned ns ws r u = Interned (with_names ns ws) (rows r u)

pub line-interned : (ns ws : List (List ℕ)) (t : List ℕ) (r : ℕ) (u : List ℕ) → Holds ns t → name_size ≤ length t
    → Each Named ws → rows r u ≡ rows_through (rows (length ns) t) ws → LineInterned ns ws r u
line-interned ns ws t r u h k g e = rw e (several_interned ws ns t h k g)
