-- Laws of minimal explanations, by whether a setting explains and whether a proper subset of it does; and what they do
-- not depend on. Assumes nothing.
use mathlib.Core.Path.{◌≡◌, refl, ap, ap₂}
use mathlib.Core.Bool.{Bool, true, false, not, ◌&&◌}
use mathlib.Core.List.{List}
use Prim.Native.Nat.{ℕ}
use Rattle.words.proofs.Below.{any_ext}
use Rattle.words.proofs.Tests.{and_true_l}
use Rattle.program.specs.declared.case.Case.{Case}
use Rattle.program.specs.Setting.{product}
use Rattle.program.proofs.Causes.{causes_alike}
use Rattle.explanation.specs.Explanation.{observed_true, explains_under, set_explains, explains}
use Rattle.explanation.specs.Judge.{Judge}
use Rattle.explanation.specs.Subset.{proper_of, some_proper, minimal}

module _ (J : Judge) (cs : List ℕ) (s : ℕ) where
  pub minimal-is : minimal J cs s ≡ (J.explains s && not (some_proper J.explains cs s))
  unfolding minimal
  minimal-is = refl

  pub minimal-explains : minimal J cs s ≡ true → J.explains s ≡ true
  unfolding minimal
  minimal-explains e = and_true_l (J.explains s) (not (some_proper J.explains cs s)) e

  pub minimal-other : J.explains s ≡ false → minimal J cs s ≡ false
  unfolding minimal
  minimal-other e = ap (λ (a : Bool). a && not (some_proper J.explains cs s)) e

  -- m says whether a proper subset explains
  pub minimal_by : (m : Bool) → J.explains s ≡ true → some_proper J.explains cs s ≡ m → minimal J cs s ≡ not m
  unfolding minimal
  minimal_by m e f = ap₂ (λ (a b : Bool). a && not b) e f

-- judges that say of the same settings that they explain
module _ (J K : Judge) (e : (s : ℕ) → J.explains s ≡ K.explains s) (cs : List ℕ) (s : ℕ) where
  proper_alike : some_proper J.explains cs s ≡ some_proper K.explains cs s
  unfolding some_proper
  proper_alike = any_ext (product cs) _ _ (λ t l. ap (λ (b : Bool). proper_of cs t s && b) (e t))

  pub minimal_alike : minimal J cs s ≡ minimal K cs s
  unfolding minimal
  minimal_alike = ap₂ (λ (a b : Bool). a && not b) (e s) proper_alike

-- the formulas of a case say nothing of what explains its readings
pub explains_alike : (c d : Case) (cl co : List ℕ) (s : ℕ) → c.edition ≡ d.edition → c.atoms ≡ d.atoms
    → c.clauses ≡ d.clauses
    → c.constraints ≡ d.constraints → c.plain ≡ d.plain → c.negated ≡ d.negated
    → explains c cl co s ≡ explains d cl co s
unfolding set_explains explains_under observed_true
explains_alike c d cl co s e a l k p q = rw (causes_alike c d cl e a l, l, k, p, q)
