-- The weak completion of a program, its models, and the least of them.
-- From: document 01, "Interpretations and the step"; document 003.
--
--   weak_completion n p   for each of n atoms with clauses, the atom "same" the "or" of its bodies
--   all_true v fs         every formula of fs is true under v
--   Model n p v           v is a model of the weak completion
--   LeastModel n p v      v is a model, and contained in every other
use Rattle.std.specs.Prelude.{◌≡◌, Bool, true, ◌&&◌, List, [], ◌∷◌, ◌++◌, ℕ, zero, suc}
use Rattle.logic.specs.declared.value.Value.{Value}
use Rattle.logic.specs.Value.{is_true}
use Rattle.logic.specs.Formula.{Formula, value_of, any_of}
use Rattle.logic.specs.Order.{Contained}
use Rattle.program.specs.Program.{Clause}
use Rattle.settle.specs.Step.{bodies_of}

-- the equivalence of an atom with these bodies; an atom without bodies gets none
abbrev pub equivalence_of : ℕ → List Formula → List Formula
equivalence_of a [] = []
equivalence_of a (f ∷ fs) = Formula.equivalence (Formula.atom a) (any_of (f ∷ fs)) ∷ []

unfoldable pub weak_completion : ℕ → List Clause → List Formula
weak_completion zero p = []
weak_completion (suc a) p = weak_completion a p ++ equivalence_of a (bodies_of p a)

unfoldable pub all_true : (ℕ → Value) → List Formula → Bool
all_true v [] = true
all_true v (f ∷ fs) = is_true (value_of v f) && all_true v fs

abbrev pub Model : ℕ → List Clause → (ℕ → Value) → Type 0
Model n p v = all_true v (weak_completion n p) ≡ true

pub record LeastModel (n : ℕ) (p : List Clause) (v : ℕ → Value) : Type 0 where
  pub is_model : Model n p v
  pub is-least : (w : ℕ → Value) → Model n p w → Contained v w
