-- One application of the step (the semantic operator of documents 001, 002, 004).
-- From: document 01, "Interpretations and the step"; document 02, [6] (what a round decides newly).
--
--   bodies_of p a      the bodies of the clauses of p that have the head a
--   some_true v fs     some formula of fs is true under v
--   all_false v fs     every formula of fs is false under v
--   next_value p v a   the value of atom a after one application to the values v
--   step p i           the interpretation after i
--   stepped p i        the step's answer: the interpretation after i, and how many atoms it decides newly
use Rattle.std.specs.Prelude.{Bool, true, false, ◌&&◌, ◌||◌, List, [], ◌∷◌, ℕ, eqb}
use Rattle.words.specs.Choice.{cons_if}
use Rattle.logic.specs.declared.value.Value.{Value}
use Rattle.logic.specs.declared.interpretation.Interpretation.{Interpretation}
use Rattle.logic.specs.Value.{is_true, is_false}
use Rattle.logic.specs.Formula.{Formula, value_of}
use Rattle.logic.specs.Interpretation.{among, value_at, of_values, newly_decided}
use Rattle.program.specs.Program.{Clause}
use Rattle.settle.specs.declared.step.Stepped.{Stepped}

unfoldable pub bodies_of : List Clause → ℕ → List Formula
bodies_of [] a = []
bodies_of (c ∷ p) a = cons_if (eqb a c.head) c.body (bodies_of p a)

unfoldable pub some_true : (ℕ → Value) → List Formula → Bool
some_true v [] = false
some_true v (f ∷ fs) = is_true (value_of v f) || some_true v fs

unfoldable pub all_false : (ℕ → Value) → List Formula → Bool
all_false v [] = true
all_false v (f ∷ fs) = is_false (value_of v f) && all_false v fs

abbrev pub has_some : List Formula → Bool
has_some [] = false
has_some (f ∷ fs) = true

-- the value that bodies give their head: true if one is true, false if there is one and all are false, otherwise
-- unknown
abbrev pub given : (ℕ → Value) → List Formula → Value
given v fs = among (some_true v fs) (has_some fs && all_false v fs)

unfoldable pub next_value : List Clause → (ℕ → Value) → ℕ → Value
next_value p v a = given v (bodies_of p a)

unfoldable pub step : List Clause → Interpretation → Interpretation
step p i = of_values (next_value p (value_at i))

abbrev pub stepped : List Clause → Interpretation → Stepped
stepped p i = record { interpretation = step p i; decided = newly_decided i (step p i) }
