-- Laws of formulas over atoms, and of the nodes of a form of two operands. They name no notion of reading.
-- Assumes nothing.
use mathlib.Core.Path.{◌≡◌}
use mathlib.Core.Bool.{true, false≢true}
use Prim.Native.Nat.{ℕ, zero, suc, ◌+◌, ◌≤◌}
use native.Mathlib.Omega.{arith}
use lib.ListN.{length, length-append}
use borrow.Author.Tests.{ltb-true, lt-ltb}
use Rattle.words.proofs.Tests.{and_gives, and_true_l}
use Rattle.logic.specs.Formula.{Formula, over}
use Rattle.logic.specs.Nodes.{nodes, joined}

pub joined_length : (k : ℕ) (f g : Formula) → length (nodes (joined k f g)) ≡ 1 + length (nodes f) + length (nodes g)
unfolding nodes
joined_length zero f g = simp length-append (omega arith)
joined_length (suc zero) f g = simp length-append (omega arith)
joined_length (suc (suc zero)) f g = simp length-append (omega arith)
joined_length (suc (suc (suc k))) f g = simp length-append (omega arith)

-- a formula over some atoms is over more
pub over_mono : (m n : ℕ) → m ≤ n → (f : Formula) → over m f ≡ true → over n f ≡ true
unfolding over
over_mono m n l Formula.truth h = h
over_mono m n l Formula.falsity h = h
over_mono m n l (Formula.atom a) h = lt-ltb a n (omega (arith, ltb-true a m h))
over_mono m n l (Formula.negation f) h = over_mono m n l f h
over_mono m n l (Formula.conjunction f g) h = and_gives (over_mono m n l f) (over_mono m n l g) h
over_mono m n l (Formula.disjunction f g) h = and_gives (over_mono m n l f) (over_mono m n l g) h
over_mono m n l (Formula.implication f g) h = and_gives (over_mono m n l f) (over_mono m n l g) h
over_mono m n l (Formula.equivalence f g) h = and_gives (over_mono m n l f) (over_mono m n l g) h

-- and there is one
pub over-some : (n : ℕ) (f : Formula) → over n f ≡ true → 1 ≤ n
unfolding over
over-some n Formula.truth h = absurd (false≢true h)
over-some n Formula.falsity h = absurd (false≢true h)
over-some n (Formula.atom a) h = omega (arith, ltb-true a n h)
over-some n (Formula.negation f) h = over-some n f h
over-some n (Formula.conjunction f g) h = over-some n f (and_true_l (over n f) (over n g) h)
over-some n (Formula.disjunction f g) h = over-some n f (and_true_l (over n f) (over n g) h)
over-some n (Formula.implication f g) h = over-some n f (and_true_l (over n f) (over n g) h)
over-some n (Formula.equivalence f g) h = over-some n f (and_true_l (over n f) (over n g) h)
