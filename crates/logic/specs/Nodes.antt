-- Formulas in prefix order, as a case's formula table holds them.
-- From: document 01, "Case tables and sound cases" (0 to 63 an atom, 64 not, 65 and, 66 or, 67 then, 68 same).
--
--   nodes f            the nodes of f in prefix order
--   spelled ks         the formulas that the nodes ks are, one after the other, or that they are none
--   one_formula n ks   the nodes are exactly one formula of depth at most 16 over the atoms below n
--   formula_of ks      that formula
use Rattle.std.specs.Prelude.{Bool, false, ◌&&◌, List, [], ◌∷◌, ◌++◌, ℕ, zero, suc, ◌-◌, eqb, ltb, leb}
use Rattle.words.specs.Choice.{pick}
use Rattle.logic.specs.Formula.{Formula, depth, over}

-- the constants have no node
unfoldable pub nodes : Formula → List ℕ
nodes Formula.truth = []
nodes Formula.falsity = []
nodes (Formula.atom a) = a ∷ []
nodes (Formula.negation f) = 64 ∷ nodes f
nodes (Formula.conjunction f g) = 65 ∷ (nodes f ++ nodes g)
nodes (Formula.disjunction f g) = 66 ∷ (nodes f ++ nodes g)
nodes (Formula.implication f g) = 67 ∷ (nodes f ++ nodes g)
nodes (Formula.equivalence f g) = 68 ∷ (nodes f ++ nodes g)

pub data Spelling : Type 0 where
  none : Spelling
  formulas : List Formula → Spelling

-- the form of two operands with node 65 + k
abbrev pub joined : ℕ → Formula → Formula → Formula
joined zero f g = Formula.conjunction f g
joined (suc zero) f g = Formula.disjunction f g
joined (suc (suc zero)) f g = Formula.implication f g
joined (suc (suc (suc k))) f g = Formula.equivalence f g

-- "not" in front of formulas
abbrev pub with_not : List Formula → Spelling
with_not [] = Spelling.none
with_not (f ∷ fs) = Spelling.formulas (Formula.negation f ∷ fs)

-- a form of two operands, node 65 + k, in front of formulas
abbrev pub with_form : ℕ → List Formula → Spelling
with_form k [] = Spelling.none
with_form k (f ∷ []) = Spelling.none
with_form k (f ∷ (g ∷ fs)) = Spelling.formulas (joined k f g ∷ fs)

-- node k in front of formulas
unfoldable pub with_node : ℕ → Spelling → Spelling
with_node k Spelling.none = Spelling.none
with_node k (Spelling.formulas fs) =
    pick (ltb k 64) (Spelling.formulas (Formula.atom k ∷ fs))
    (pick (eqb k 64) (with_not fs) (pick (ltb k 69) (with_form (k - 65) fs) Spelling.none))

unfoldable pub spelled : List ℕ → Spelling
spelled [] = Spelling.formulas []
spelled (k ∷ ks) = with_node k (spelled ks)

abbrev pub single : ℕ → Spelling → Bool
single n Spelling.none = false
single n (Spelling.formulas []) = false
single n (Spelling.formulas (f ∷ [])) = over n f && leb (depth f) 16
single n (Spelling.formulas (f ∷ (g ∷ fs))) = false

unfoldable pub one_formula : ℕ → List ℕ → Bool
one_formula n ks = single n (spelled ks)

-- the first formula of a spelling; truth, which no node spells, where there is none
abbrev pub first_of : Spelling → Formula
first_of Spelling.none = Formula.truth
first_of (Spelling.formulas []) = Formula.truth
first_of (Spelling.formulas (f ∷ fs)) = f

unfoldable pub formula_of : List ℕ → Formula
formula_of ks = first_of (spelled ks)
