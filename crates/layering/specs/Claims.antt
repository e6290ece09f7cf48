-- What is claimed of layers beyond the contract of *layers*. Proved in proofs/Theorems.antt.
-- From: document 02, request [3].
--
--   NumbersOf c cl v   v numbers the atoms of the case: each head's number is greater than that of every atom in its
--                      bodies, plain or negated
--   number_of c cl a   the number that the atom a of a layered case is answered with
--   NumbersLeast       what the numbers of a layered case are
--   LayeredExact       when a case is layered
--   RingExact          what a ring bars, and how long it can be
--   is_layered a       the answer a gives numbers; listed a are its entries
--   AnswerExact        when the operation answers a ring, and when numbers
use Rattle.std.specs.Prelude.{◌≡◌, Bool, true, false, List, ℕ, ◌≤◌, ◌<◌, length, take, Ok}
use Rattle.program.specs.declared.case.Case.{Case}
use Rattle.program.specs.Case.{head_at}
use Rattle.program.specs.Program.{headed, names}
use Rattle.program.specs.Sound.{sound}
use Rattle.layering.specs.declared.answer.Layers.{Layers}
use Rattle.layering.specs.Layers.{least_number}
use Rattle.layering.specs.Operation.{dependence, layered_in, numbers_in, RingIn, Layering}

abbrev pub NumbersOf : Case → List ℕ → (ℕ → ℕ) → Type 0
NumbersOf c cl v = (k b : ℕ) → k < c.clauses → names cl k b ≡ true → v b < v (head_at cl k)

abbrev pub number_of : Case → List ℕ → ℕ → ℕ
number_of c cl a = least_number c.atoms (dependence c cl) a

-- the numbers of a case are a numbering, at most those of every other; an atom without clauses gets 0, and so does one
-- whose clauses name no atom
pub record LeastNumbers (c : Case) (cl : List ℕ) : Type 0 where
  pub are_numbers : NumbersOf c cl (number_of c cl)
  pub are_least : (v : ℕ → ℕ) → NumbersOf c cl v → (a : ℕ) → a < c.atoms → number_of c cl a ≤ v a
  pub headless_zero : (a : ℕ) → a < c.atoms → headed cl c.clauses a ≡ false → number_of c cl a ≡ 0
  pub bodiless_zero : (a : ℕ) → a < c.atoms → ((b : ℕ) → dependence c cl a b ≡ false) → number_of c cl a ≡ 0

abbrev pub NumbersLeast : Type 0
NumbersLeast = (c : Case) (cl co fo : List ℕ) → sound c cl co fo ≡ true → layered_in c cl ≡ true → LeastNumbers c cl

-- a sound case is layered exactly when it has a numbering; one with a numbering is layered, sound or not
pub record LayeredExact : Type 0 where
  pub numbered : (c : Case) (cl co fo : List ℕ) → sound c cl co fo ≡ true → layered_in c cl ≡ true
      → (v : ℕ → ℕ) × NumbersOf c cl v
  pub layered_by : (c : Case) (cl : List ℕ) (v : ℕ → ℕ) → NumbersOf c cl v → layered_in c cl ≡ true

-- a case with a ring has no numbering, and the ring has at most as many atoms as the case
pub record RingExact : Type 0 where
  pub no_numbering : (c : Case) (cl l : List ℕ) → RingIn c cl l → (v : ℕ → ℕ) → NumbersOf c cl v → ⊥
  pub at_most : (c : Case) (cl l : List ℕ) → RingIn c cl l → length l ≤ c.atoms

abbrev pub is_layered : Layers → Bool
is_layered (Layers.Layered e) = true
is_layered (Layers.Ring e) = false

abbrev pub listed : Layers → List ℕ
listed (Layers.Layered e) = take e.count e.entries
listed (Layers.Ring e) = take e.count e.entries

-- the answer gives a ring exactly when no numbering exists, and otherwise the least numbers
pub record AnsweredOf (c : Case) (cl : List ℕ) (a : Layers) : Type 0 where
  pub ring_where_none : ((v : ℕ → ℕ) → NumbersOf c cl v → ⊥) → is_layered a ≡ false
  pub none_where_ring : is_layered a ≡ false → (v : ℕ → ℕ) → NumbersOf c cl v → ⊥
  pub ring-is : is_layered a ≡ false → RingIn c cl (listed a)
  pub numbers_are : is_layered a ≡ true → listed a ≡ numbers_in c cl

-- whatever the operation answers of a case that it doesn't refuse
abbrev pub AnswerExact : Type 0
AnswerExact = (c : Case) (cl co fo : List ℕ) (a : Layers) → Layering c cl co fo (Ok a) → AnsweredOf c cl a
