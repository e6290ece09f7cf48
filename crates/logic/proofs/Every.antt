-- One computed test in place of a case for each value. Assumes nothing.
use mathlib.Core.Path.{◌≡◌, refl}
use mathlib.Core.Bool.{Bool, true, false, ◌&&◌, beq}
use lib.Dec.{T}
use Rattle.logic.specs.declared.value.Value.{Value}
use Rattle.logic.specs.declared.value.Value.TheVariants.{False, Unknown, True}

and_left : (a b : Bool) → T (a && b) → T a
and_left true b t = tt
and_left false b t = t

and_right : (a b : Bool) → T (a && b) → T b
and_right true b t = t
and_right false b t = absurd t

abbrev pub every_value : (Value → Bool) → Bool
every_value f = f False && (f Unknown && f True)

-- a test that passes at every value passes at v
pub every-at : (f : Value → Bool) → T (every_value f) → (v : Value) → T (f v)
every-at f t False = and_left (f False) (f Unknown && f True) t
every-at f t Unknown = and_left (f Unknown) (f True) (and_right (f False) (f Unknown && f True) t)
every-at f t True = and_right (f Unknown) (f True) (and_right (f False) (f Unknown && f True) t)

-- the same for pairs
pub every_at₂ : (f : Value → Value → Bool) → T (every_value (λ (v : Value). every_value (f v)))
    → (v w : Value) → T (f v w)
every_at₂ f t v w = every-at (f v) (every-at (λ (x : Value). every_value (f x)) t v) w

-- what a test of two Bools shows
pub beq_eq : (a b : Bool) → T (beq a b) → a ≡ b
beq_eq true true t = refl
beq_eq true false t = absurd t
beq_eq false true t = absurd t
beq_eq false false t = refl
