-- Laws of the values: by their tests, by their ranks, and of the connectives. A law of two values is one computed test
-- over all pairs (Every.antt). Assumes nothing.
use mathlib.Core.Path.{◌≡◌, refl, sym, ap, ap₂, ◌∙◌, subst}
use mathlib.Core.Bool.{Bool, true, false, ◌&&◌, ◌||◌, beq, true≢false, false≢true}
use Prim.Native.Nat.{ℕ, zero, suc, ◌<◌}
use native.Mathlib.Omega.{arith}
use lib.Dec.{T, eqb, eqb→eq}
use Rattle.logic.specs.declared.value.Value.{Value}
use Rattle.logic.specs.declared.value.Value.TheVariants.{False, Unknown, True}
use Rattle.logic.specs.Value.{rank, is_true, is_false, is_decided, negated, lesser, greater, equivalent}
use Rattle.logic.specs.Interpretation.{among}
use Rattle.logic.proofs.Every.{every_at₂, beq_eq}

-- ---- rank
pub rank_lt : (v : Value) → rank v < 3
rank_lt False = omega arith
rank_lt Unknown = omega arith
rank_lt True = omega arith

abbrev of_rank : ℕ → Value
of_rank zero = False
of_rank (suc zero) = Unknown
of_rank (suc (suc k)) = True

of-rank : (v : Value) → of_rank (rank v) ≡ v
of-rank False = refl
of-rank Unknown = refl
of-rank True = refl

rank_inj : (v w : Value) → rank v ≡ rank w → v ≡ w
rank_inj v w e = sym (of-rank v) ∙ ap of_rank e ∙ of-rank w

abbrev pub same_value : Value → Value → Bool
same_value v w = eqb (rank v) (rank w)

-- what the test of two values shows
pub same-value : (v w : Value) → T (same_value v w) → v ≡ w
same-value v w t = rank_inj v w (eqb→eq (rank v) (rank w) t)

-- ---- the tests of a value
pub by_tests : (v : Value) → v ≡ among (is_true v) (is_false v)
by_tests False = refl
by_tests Unknown = refl
by_tests True = refl

pub value_ext : (v w : Value) → is_true v ≡ is_true w → is_false v ≡ is_false w → v ≡ w
value_ext v w t f = by_tests v ∙ ap₂ among t f ∙ sym (by_tests w)

pub true_among : (t f : Bool) → is_true (among t f) ≡ t
true_among true f = refl
true_among false true = refl
true_among false false = refl

pub false_among : (t f : Bool) → (t && f) ≡ false → is_false (among t f) ≡ f
false_among true true e = sym e
false_among true false e = refl
false_among false true e = refl
false_among false false e = refl

pub decided-among : (t f : Bool) → is_decided (among t f) ≡ (t || f)
decided-among true f = refl
decided-among false true = refl
decided-among false false = refl

pub not-both : (v : Value) → (is_true v && is_false v) ≡ false
not-both False = refl
not-both Unknown = refl
not-both True = refl

pub is_true_lem : (v : Value) → is_true v ≡ true → v ≡ True
is_true_lem False e = absurd (false≢true e)
is_true_lem Unknown e = absurd (false≢true e)
is_true_lem True e = refl

pub is_false_lem : (v : Value) → is_false v ≡ true → v ≡ False
is_false_lem False e = refl
is_false_lem Unknown e = absurd (false≢true e)
is_false_lem True e = absurd (false≢true e)

pub is-unknown : (v : Value) → is_true v ≡ false → is_false v ≡ false → v ≡ Unknown
is-unknown v t f = value_ext v Unknown t f

-- ---- "not"
pub true_negated : (v : Value) → is_true (negated v) ≡ is_false v
true_negated False = refl
true_negated Unknown = refl
true_negated True = refl

pub false_negated : (v : Value) → is_false (negated v) ≡ is_true v
false_negated False = refl
false_negated Unknown = refl
false_negated True = refl

-- ---- "and"
pub true_lesser : (v w : Value) → is_true (lesser v w) ≡ (is_true v && is_true w)
true_lesser v w =
    beq_eq _ _ (every_at₂ (λ (x y : Value). beq (is_true (lesser x y)) (is_true x && is_true y)) tt v w)

pub false_lesser : (v w : Value) → is_false (lesser v w) ≡ (is_false v || is_false w)
false_lesser v w =
    beq_eq _ _ (every_at₂ (λ (x y : Value). beq (is_false (lesser x y)) (is_false x || is_false y)) tt v w)

-- ---- "or"
pub true_greater : (v w : Value) → is_true (greater v w) ≡ (is_true v || is_true w)
true_greater v w =
    beq_eq _ _ (every_at₂ (λ (x y : Value). beq (is_true (greater x y)) (is_true x || is_true y)) tt v w)

pub false_greater : (v w : Value) → is_false (greater v w) ≡ (is_false v && is_false w)
false_greater v w =
    beq_eq _ _ (every_at₂ (λ (x y : Value). beq (is_false (greater x y)) (is_false x && is_false y)) tt v w)

pub greater_comm : (v w : Value) → greater v w ≡ greater w v
greater_comm v w = same-value _ _ (every_at₂ (λ (x y : Value). same_value (greater x y) (greater y x)) tt v w)

pub greater-assoc : (a b c : Value) → greater (greater a b) c ≡ greater a (greater b c)
greater-assoc False b c = refl
greater-assoc Unknown b c =
    same-value _ _
    (every_at₂ (λ (x y : Value). same_value (greater (greater Unknown x) y) (greater Unknown (greater x y))) tt b c)
greater-assoc True b c = refl

pub greater_false_r : (v : Value) → greater v False ≡ v
greater_false_r False = refl
greater_false_r Unknown = refl
greater_false_r True = refl

pub greater-unknown-r : (v : Value) → is_true v ≡ false → greater v Unknown ≡ Unknown
greater-unknown-r False e = refl
greater-unknown-r Unknown e = refl
greater-unknown-r True e = absurd (true≢false e)

pub greater_true_r : (v : Value) → greater v True ≡ True
greater_true_r False = refl
greater_true_r Unknown = refl
greater_true_r True = refl

-- ---- "same"
pub equivalent_self : (v : Value) → equivalent v v ≡ True
equivalent_self False = refl
equivalent_self Unknown = refl
equivalent_self True = refl

equivalent-test : (v w : Value) → is_true (equivalent v w) ≡ same_value v w
equivalent-test v w =
    beq_eq _ _ (every_at₂ (λ (x y : Value). beq (is_true (equivalent x y)) (same_value x y)) tt v w)

pub equivalent_true : (v w : Value) → equivalent v w ≡ True → v ≡ w
equivalent_true v w e = same-value v w (subst T (sym (ap is_true e) ∙ equivalent-test v w) tt)
