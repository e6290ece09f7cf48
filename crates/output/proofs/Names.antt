-- Laws of a name in a row of a names table: it ends before the first zero of the row. Assumes nothing.
use mathlib.Core.Path.{◌≡◌, sym, ap, ◌∙◌}
use mathlib.Core.List.{List, [], ◌∷◌}
use Prim.Native.Nat.{ℕ, zero, suc, ◌+◌, ◌-◌, ◌*◌, ◌≤◌, ◌<◌}
use native.Mathlib.Omega.{arith}
use lib.ListN.{length, drop, take, get_or, get_or-eq_default}
use lib.Seq.{take_all}
use Rattle.names.specs.Row.{before_zero, name_in}
use Rattle.names.proofs.RowNames.{before-zero-stops, before-zero-more, before-zero_nil}

-- no byte of l before place i is zero
abbrev pub NoneZero : List ℕ → ℕ → Type 0
NoneZero l i = (k : ℕ) → k < i → get_or l k 0 ≡ 0 → ⊥

before-zero-take : (l : List ℕ) (i : ℕ) → NoneZero l i → get_or l i 0 ≡ 0 → before_zero l ≡ take i l
before-zero-take [] zero n e = before-zero_nil
before-zero-take [] (suc i) n e = before-zero_nil
before-zero-take (b ∷ l) zero n e = before-zero-stops b l e
before-zero-take (b ∷ l) (suc i) n e =
    before-zero-more b l (n 0 (omega arith))
    ∙ ap (λ (t : List ℕ). b ∷ t) (before-zero-take l i (λ k h. n (suc k) (omega arith)) e)

-- the row of atom a as the code lends it
abbrev pub row_of : List ℕ → ℕ → List ℕ
row_of t a = take (16 * a + 16 - 16 * a) (drop (16 * a) t)

row-is : (t : List ℕ) (a : ℕ) → row_of t a ≡ take 16 (drop (16 * a) t)
row-is t a = let e : 16 * a + 16 - 16 * a ≡ 16 = omega arith in rw e

pub name-stops : (t : List ℕ) (a i : ℕ) → NoneZero (row_of t a) i → get_or (row_of t a) i 0 ≡ 0
    → take i (row_of t a) ≡ name_in t a
name-stops t a i n e = sym (before-zero-take (row_of t a) i n e) ∙ ap before_zero (row-is t a)

pub name-whole : (t : List ℕ) (a i : ℕ) → NoneZero (row_of t a) i → length (row_of t a) ≤ i
    → row_of t a ≡ name_in t a
name-whole t a i n h =
    sym (take_all i (row_of t a) h) ∙ name-stops t a i n (get_or-eq_default (row_of t a) 0 h)
