-- What is claimed of the logic beyond the functions' contracts. Proved in proofs/Theorems.antt.
-- From: document 01, "Formulas" and "Case tables and sound cases" ("exactly one formula of depth at most 16").
use Rattle.std.specs.Prelude.{◌≡◌, true, List}
use Prim.Native.Nat.{ℕ, ◌+◌, ◌-◌, ◌≤◌, min}
use Rattle.logic.specs.declared.value.Value.{Value}
use Rattle.logic.specs.Value.{rank, lesser, greater, implies}
use Rattle.logic.specs.Formula.{Formula, depth, over}
use Rattle.logic.specs.Nodes.{nodes, one_formula, formula_of}

-- "and" is the lesser and "or" the greater of two values, by their ranks
abbrev pub LesserRank : Type 0
LesserRank = (v w : Value) → rank (lesser v w) ≡ min (rank v) (rank w)

abbrev pub GreaterRank : Type 0
GreaterRank = (v w : Value) → rank (greater v w) ≡ Prim.Native.Nat.max (rank v) (rank w)

-- "then" is Łukasiewicz's: on ranks, the lesser of 2 and 2 − v + w
abbrev pub ImpliesRank : Type 0
ImpliesRank = (v w : Value) → rank (implies v w) ≡ min 2 ((2 + rank w) - rank v)

-- f is the formula that the nodes ks spell, over the atoms below n and of depth at most 16
pub record Spells (n : ℕ) (ks : List ℕ) (f : Formula) : Type 0 where
  pub nodes_are : nodes f ≡ ks
  pub over-atoms : over n f ≡ true
  pub not_deep : depth f ≤ 16

-- nodes that pass the test are the nodes of the formula they are read as, and the nodes of such a formula pass it
pub record OneFormulaExact : Type 0 where
  pub accepted : (n : ℕ) (ks : List ℕ) → one_formula n ks ≡ true → Spells n ks (formula_of ks)
  pub complete : (n : ℕ) (ks : List ℕ) (f : Formula) → n ≤ 64 → Spells n ks f → one_formula n ks ≡ true
  pub unique : (n : ℕ) (ks : List ℕ) (f : Formula) → n ≤ 64 → Spells n ks f → formula_of ks ≡ f
