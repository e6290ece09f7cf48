-- The loops over the names of a line, name by name: whether one is long, and names put into rows. Assumes nothing.
use mathlib.Core.Path.{◌≡◌, refl, sym, ap, ◌∙◌}
use mathlib.Core.Bool.{true, false}
use mathlib.Core.List.{List}
use Prim.Native.Nat.{ℕ, ◌+◌, ◌-◌, ◌≤◌, ◌<◌}
use native.Mathlib.Omega.{arith}
use lib.ListN.{length, take, drop, length-drop}
use lib.Seq.{slice, length-slice}
use Rattle.text.specs.Tokens.{tokens}
use Rattle.text.specs.Words.{names_in}
use Rattle.text.specs.Scanning.{first_name, NameFound}
use Rattle.std.specs.Prelude.{Option, None, Some}
use Rattle.text.proofs.Slices.{part_slice}
use Rattle.text.proofs.Names.{names-found, name-inside, name-onward}
use Rattle.names.specs.Names.{some_long}
use Rattle.names.specs.Row.{Rows, rows_with, rows_through}
use Rattle.names.proofs.Short.{some-long-here, some-long-later, some-long_nil, short-line}
use Rattle.names.proofs.Interning.{through_none, through_more, through_full}

-- a name of the line l is long if one from place at on is
pub record LongFrom (l : List ℕ) (at : ℕ) : Type 0 where
  pub inside : at ≤ length l
  pub some_is : some_long (names_in (tokens l)) ≡ some_long (names_in (tokens (drop at l)))

pub long-from-none : (l : List ℕ) → LongFrom l 0
long-from-none l = record { inside = omega arith; some_is = refl }

-- at most 16 bytes are left
pub long-short : {l : List ℕ} {at : ℕ} → LongFrom l at → length l ≤ at + 16 → false ≡ some_long (names_in (tokens l))
long-short {l} {at} h k = sym (h.some_is ∙ short-line (drop at l) (simp length-drop (omega arith)))

module _ {l : List ℕ} {at : ℕ} {r : Option (ℕ × ℕ)} (h : LongFrom l at) (f : NameFound l at r) where
  left-long : {q : Option (ℕ × ℕ)} → r ≡ q → some_long (names_in (tokens l)) ≡ some_long (first_name l q)
  left-long e = h.some_is ∙ ap some_long (names-found f e)

  pub long-none : r ≡ None → false ≡ some_long (names_in (tokens l))
  long-none q = sym (left-long q ∙ some-long_nil)

  module _ {a e : ℕ} (q : r ≡ Some (a, e)) where
    name-length : length (slice a e l) ≡ e - a
    name-length = length-slice a e l (name-inside f q).2

    pub long-here : 16 < e - a → true ≡ some_long (names_in (tokens l))
    long-here k = sym (left-long q ∙ some-long-here (slice a e l) _ (rw name-length k))

    pub long-later : e - a ≤ 16 → LongFrom l e
    long-later k = record {
      inside = (name-inside f q).2;
      some_is = left-long q ∙ some-long-later (slice a e l) _ (rw name-length k);
    }

-- the names of the line l are put into the rows s₀ if those from place at on are put into s
pub record Adding (s₀ : Rows) (l : List ℕ) (at : ℕ) (s : Rows) : Type 0 where
  pub rows_are : rows_through s₀ (names_in (tokens l)) ≡ rows_through s (names_in (tokens (drop at l)))

pub adding_all : (s : Rows) (l : List ℕ) → Adding s l 0 s
adding_all s l = record { rows_are = refl }

module _ {s₀ s : Rows} {l : List ℕ} {at : ℕ} {r : Option (ℕ × ℕ)} (h : Adding s₀ l at s) (f : NameFound l at r) where
  left_are : {q : Option (ℕ × ℕ)} → r ≡ q → rows_through s₀ (names_in (tokens l)) ≡ rows_through s (first_name l q)
  left_are e = h.rows_are ∙ ap (rows_through s) (names-found f e)

  pub adding_none : r ≡ None → s ≡ rows_through s₀ (names_in (tokens l))
  adding_none q = sym (left_are q ∙ through_none s)

  -- the next name is put into s, which leaves next
  module _ {a e : ℕ} {next : Rows} (q : r ≡ Some (a, e)) (i : next ≡ rows_with s (take (e - a) (drop a l))) where
    interned : next ≡ rows_with s (slice a e l)
    interned = i ∙ ap (rows_with s) (part_slice l a e (name-onward f q))

    pub adding_full : 64 < next.count → next ≡ rows_through s₀ (names_in (tokens l))
    adding_full k = sym (left_are q ∙ through_full s next (slice a e l) _ interned k)

    pub adding_more : next.count ≤ 64 → Adding s₀ l e next
    adding_more k = record { rows_are = left_are q ∙ through_more s next (slice a e l) _ interned k }
