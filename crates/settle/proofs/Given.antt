-- Laws of lists of bodies: those of a program of two parts, and the value that bodies give their head, by that of their
-- "or". Assumes nothing.
use mathlib.Core.Path.{◌≡◌, refl, sym, ap, ap₂, ◌∙◌}
use mathlib.Core.Bool.{Bool, true, false, ◌&&◌, ◌||◌, false≢true}
use mathlib.Core.List.{List, [], ◌∷◌, ◌++◌}
use Prim.Native.Nat.{ℕ}
use lib.Dec.{eqb}
use Rattle.words.specs.Choice.{cons_if}
use Rattle.logic.specs.declared.value.Value.{Value}
use Rattle.logic.specs.declared.value.Value.TheVariants.{Unknown}
use Rattle.logic.specs.Value.{is_true, is_false, greater}
use Rattle.logic.specs.Formula.{Formula, value_of, any_of}
use Rattle.logic.specs.Interpretation.{among}
use Rattle.logic.proofs.Values.{by_tests, true_greater, false_greater, greater-assoc}
use Rattle.program.specs.Program.{Clause}
use Rattle.settle.specs.Step.{bodies_of, some_true, all_false, has_some, given}

-- ---- lists of two parts
cons_append : (t : Bool) (f : Formula) (fs gs : List Formula) → cons_if t f (fs ++ gs) ≡ cons_if t f fs ++ gs
cons_append true f fs gs = refl
cons_append false f fs gs = refl

pub bodies_append : (p q : List Clause) (a : ℕ) → bodies_of (p ++ q) a ≡ bodies_of p a ++ bodies_of q a
unfolding bodies_of
bodies_append [] q a = refl
bodies_append (c ∷ p) q a =
    ap (cons_if (eqb a c.head) c.body) (bodies_append p q a)
    ∙ cons_append (eqb a c.head) c.body (bodies_of p a) (bodies_of q a)

pub some-append : (fs gs : List Formula) → has_some (fs ++ gs) ≡ (has_some fs || has_some gs)
some-append [] gs = refl
some-append (f ∷ fs) gs = refl

pub any_append : (v : ℕ → Value) (fs gs : List Formula)
    → value_of v (any_of (fs ++ gs)) ≡ greater (value_of v (any_of fs)) (value_of v (any_of gs))
unfolding value_of any_of
any_append v [] gs = refl
any_append v (f ∷ fs) gs =
    ap (greater (value_of v f)) (any_append v fs gs)
    ∙ sym (greater-assoc (value_of v f) (value_of v (any_of fs)) (value_of v (any_of gs)))

-- ---- the tests of an "or"
pub true_any : (v : ℕ → Value) (fs : List Formula) → is_true (value_of v (any_of fs)) ≡ some_true v fs
unfolding value_of any_of some_true
true_any v [] = refl
true_any v (f ∷ fs) =
    true_greater (value_of v f) (value_of v (any_of fs))
    ∙ ap (λ (b : Bool). is_true (value_of v f) || b) (true_any v fs)

pub false_any : (v : ℕ → Value) (fs : List Formula) → is_false (value_of v (any_of fs)) ≡ all_false v fs
unfolding value_of any_of all_false
false_any v [] = refl
false_any v (f ∷ fs) =
    false_greater (value_of v f) (value_of v (any_of fs))
    ∙ ap (λ (b : Bool). is_false (value_of v f) && b) (false_any v fs)

-- ---- the value that bodies give
pub given-some : (v : ℕ → Value) (fs : List Formula) → has_some fs ≡ true → given v fs ≡ value_of v (any_of fs)
given-some v fs h =
    ap₂ among (sym (true_any v fs)) (ap₂ ◌&&◌ h (sym (false_any v fs))) ∙ sym (by_tests (value_of v (any_of fs)))

pub given-none : (v : ℕ → Value) (fs : List Formula) → has_some fs ≡ false → given v fs ≡ Unknown
unfolding some_true
given-none v [] h = refl
given-none v (f ∷ fs) h = absurd (false≢true (sym h))
