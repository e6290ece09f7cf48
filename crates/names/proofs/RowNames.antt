-- Laws of the name in a row of a names table: its bytes before the first zero, and those of a table that holds names.
-- Assumes nothing.
use mathlib.Core.Path.{◌≡◌, refl, sym, ap, ◌∙◌, subst}
use mathlib.Core.List.{List, [], ◌∷◌, ◌++◌}
use mathlib.Core.Logic.{⊎_elim}
use Prim.Native.Nat.{ℕ, zero, suc, ◌-◌, ◌*◌, ◌≤◌, ◌<◌}
use native.Mathlib.Nat.{suc-ne-zero}
use native.Mathlib.Omega.{arith}
use lib.ListN.{length, get_or, take, drop, length-take, get_or-eq_default}
use Rattle.words.proofs.Tests.{lt-or-le}
use Rattle.table.specs.Filled.{padded}
use Rattle.table.proofs.Filled.{padded-first, padded-split}
use Rattle.names.specs.Names.{rows_of}
use Rattle.names.specs.Row.{before_zero, name_in}
use Rattle.names.specs.Held.{NoZero, Named}
use Rattle.names.proofs.Rows.{rows-padded}

-- before_zero

pub before-zero-stops : (b : ℕ) (l : List ℕ) → b ≡ 0 → before_zero (b ∷ l) ≡ []
unfolding before_zero
before-zero-stops zero l e = refl
before-zero-stops (suc b) l e = absurd (omega arith)

pub before-zero-more : (b : ℕ) (l : List ℕ) → (b ≡ 0 → ⊥) → before_zero (b ∷ l) ≡ b ∷ before_zero l
unfolding before_zero
before-zero-more zero l n = absurd (n refl)
before-zero-more (suc b) l n = refl

-- a list that has no first byte, or begins with a zero
before-zero-none : (l : List ℕ) → get_or l 0 0 ≡ 0 → before_zero l ≡ []
unfolding before_zero
before-zero-none [] e = refl
before-zero-none (zero ∷ l) e = refl
before-zero-none (suc b ∷ l) e = absurd (omega arith)

pub before-zero_nil : before_zero [] ≡ []
unfolding before_zero
before-zero_nil = refl

pub before-zero-length : (l : List ℕ) → length (before_zero l) ≤ length l
before-zero-length [] = rw before-zero_nil (omega arith)
before-zero-length (zero ∷ l) = rw (before-zero-stops 0 l refl) (omega arith)
before-zero-length (suc b ∷ l) = rw (before-zero-more (suc b) l (suc-ne-zero b)) (omega (arith, before-zero-length l))

-- name_in

pub name-short : (t : List ℕ) (a : ℕ) → length (name_in t a) ≤ 16
name-short t a =
    let row = drop (16 * a) t in
    omega (arith, before-zero-length (take 16 row), length-take 16 row)

zeros-behind : {w : List ℕ} (n : ℕ) → NoZero w → before_zero (w ++ padded n []) ≡ w
zeros-behind n NoZero.none = before-zero-none (padded n []) (padded-first n)
zeros-behind n (NoZero.more {b} {w} h k) =
    before-zero-more b (w ++ padded n []) h ∙ ap (λ (l : List ℕ). b ∷ l) (zeros-behind n k)

pub row-name : {w : List ℕ} → Named w → before_zero (padded 16 w) ≡ w
row-name {w} h = rw (padded-split 16 w h.short) (zeros-behind (16 - length w) h.no_zero)

module _ (ns : List (List ℕ)) (named : (a : ℕ) → a < length ns → Named (get_or ns a [])) where
  -- past the names stands the empty one
  pub every-named : (a : ℕ) → Named (get_or ns a [])
  every-named a = ⊎_elim (named a) past (lt-or-le a (length ns))
    where
      past : length ns ≤ a → Named (get_or ns a [])
      past h = subst Named (sym (get_or-eq_default ns [] h)) record { short = omega arith; no_zero = NoZero.none }

  pub table-name : (a : ℕ) → a < 64 → name_in (padded 1024 (rows_of ns)) a ≡ get_or ns a []
  table-name a h = ap before_zero (rows-padded 64 ns a h) ∙ row-name (every-named a)
