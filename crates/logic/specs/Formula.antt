-- Formulas as trees, their values, and the body of a clause as a formula.
-- From: document 01, "Formulas" and "Interpretations and the step"; document 003.
--
--   value_of v f         the value of f where v gives each atom's value
--   depth f              a name has depth 1, a form one more than its deepest operand
--   over n f             f names only atoms below n, and holds no constant
--   literal b a          the atom a, or its negation where b holds
--   body plain negated   the literals of a body, joined by "and"
--   any_of fs            the formulas fs, joined by "or"
use Rattle.std.specs.Prelude.{Bool, true, false, ◌&&◌, List, [], ◌∷◌, ℕ, zero, suc, ◌+◌, max, ltb}
use Rattle.words.specs.Bits.{has}
use Rattle.logic.specs.declared.value.Value.{Value}
use Rattle.logic.specs.declared.value.Value.TheVariants.{False, True}
use Rattle.logic.specs.Value.{negated, lesser, greater, implies, equivalent}

-- the constants, truth and falsity, are the bodies of facts and of assumptions; no query holds one
pub data Formula : Type 0 where
  truth : Formula
  falsity : Formula
  atom : ℕ → Formula
  negation : Formula → Formula
  conjunction : Formula → Formula → Formula
  disjunction : Formula → Formula → Formula
  implication : Formula → Formula → Formula
  equivalence : Formula → Formula → Formula

unfoldable pub value_of : (ℕ → Value) → Formula → Value
value_of v Formula.truth = True
value_of v Formula.falsity = False
value_of v (Formula.atom a) = v a
value_of v (Formula.negation f) = negated (value_of v f)
value_of v (Formula.conjunction f g) = lesser (value_of v f) (value_of v g)
value_of v (Formula.disjunction f g) = greater (value_of v f) (value_of v g)
value_of v (Formula.implication f g) = implies (value_of v f) (value_of v g)
value_of v (Formula.equivalence f g) = equivalent (value_of v f) (value_of v g)

unfoldable pub depth : Formula → ℕ
depth Formula.truth = 1
depth Formula.falsity = 1
depth (Formula.atom a) = 1
depth (Formula.negation f) = 1 + depth f
depth (Formula.conjunction f g) = 1 + max (depth f) (depth g)
depth (Formula.disjunction f g) = 1 + max (depth f) (depth g)
depth (Formula.implication f g) = 1 + max (depth f) (depth g)
depth (Formula.equivalence f g) = 1 + max (depth f) (depth g)

unfoldable pub over : ℕ → Formula → Bool
over n Formula.truth = false
over n Formula.falsity = false
over n (Formula.atom a) = ltb a n
over n (Formula.negation f) = over n f
over n (Formula.conjunction f g) = over n f && over n g
over n (Formula.disjunction f g) = over n f && over n g
over n (Formula.implication f g) = over n f && over n g
over n (Formula.equivalence f g) = over n f && over n g

abbrev pub literal : Bool → ℕ → Formula
literal false a = Formula.atom a
literal true a = Formula.negation (Formula.atom a)

-- f and, where the test holds, the formula g
abbrev pub and_if : Bool → Formula → Formula → Formula
and_if true f g = Formula.conjunction f g
and_if false f g = f

-- the literals on the atoms below n, of a body with these plain and negated atoms
unfoldable pub literals_below : ℕ → ℕ → ℕ → Formula
literals_below plain negated zero = Formula.truth
literals_below plain negated (suc a) =
    and_if (has negated a) (and_if (has plain a) (literals_below plain negated a) (literal false a)) (literal true a)

abbrev pub body : ℕ → ℕ → Formula
body plain negated = literals_below plain negated 64

unfoldable pub any_of : List Formula → Formula
any_of [] = Formula.falsity
any_of (f ∷ fs) = Formula.disjunction f (any_of fs)
