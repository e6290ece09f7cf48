-- Laws of tests that name no plane: the order in which tests are joined, and a bit that is kept or chosen anew.
-- Assumes nothing.
use mathlib.Core.Path.{◌≡◌, refl, sym, ap, ◌∙◌}
use mathlib.Core.Bool.{Bool, true, false, not, ◌&&◌, ◌||◌, or-false, or_comm, or_assoc}
use Rattle.words.specs.Choice.{pick}
use Rattle.words.proofs.Bits.{differs}

-- ---- tests in another order
pub or_move : (m u x : Bool) → (m || (u || x)) ≡ ((m || x) || u)
or_move m u x = ap (λ (y : Bool). m || y) (or_comm u x) ∙ sym (or_assoc m x u)

pub or-front : (x y z : Bool) → (x || (y || z)) ≡ ((y || x) || z)
or-front x y z = sym (or_assoc x y z) ∙ ap (λ (u : Bool). u || z) (or_comm x y)

pub missed_move : (m u x : Bool) → (m || not (u && x)) ≡ ((m || not x) || not u)
missed_move m true x = sym (or-false (m || not x))
missed_move true false x = refl
missed_move false false true = refl
missed_move false false false = refl

-- ---- a bit that is kept, or chosen anew where the atom is open
-- h says whether the atom is looked at, u and w whether it is true and false, x and y are its next value and its value
pub kept_true : {A : Type 0} (q : A → Bool) (h u w : Bool) (x y : A) → q y ≡ u
    → (u || h && (not (u || w) && q x)) ≡ q (pick (h && not (u || w)) x y)
kept_true q true true w x y k = sym k
kept_true q true false true x y k = sym k
kept_true q true false false x y k = refl
kept_true q false true w x y k = sym k
kept_true q false false w x y k = sym k

pub kept_false : {A : Type 0} (q : A → Bool) (h u w : Bool) (x y : A) → q y ≡ w
    → (w || h && (not (u || w) && q x)) ≡ q (pick (h && not (u || w)) x y)
kept_false q h u w x y k =
    ap (λ (b : Bool). w || h && (not b && q x)) (or_comm u w)
    ∙ kept_true q h w u x y k
    ∙ ap (λ (b : Bool). q (pick (h && not b) x y)) (or_comm w u)

-- an atom changes where it is chosen anew: x and y say whether it becomes true and false
pub chosen-differs : (h u w x y : Bool)
    → (differs (u || h && (not (u || w) && x)) u || differs (w || h && (not (u || w) && y)) w)
    ≡ (h && (not (u || w) && (x || y)))
chosen-differs true true true x y = refl
chosen-differs true true false x y = refl
chosen-differs true false true x y = refl
chosen-differs true false false true y = refl
chosen-differs true false false false true = refl
chosen-differs true false false false false = refl
chosen-differs false true true x y = refl
chosen-differs false true false x y = refl
chosen-differs false false true x y = refl
chosen-differs false false false x y = refl

pub differs_none : (u : Bool) → differs u false ≡ u
differs_none true = refl
differs_none false = refl
