-- Nodes that pass the test are the nodes of the formula they are read as, and the nodes of such a formula pass it and
-- are read as that formula. Assumes nothing.
use mathlib.Core.Path.{◌≡◌, sym, ap, ◌∙◌}
use mathlib.Core.List.{List, [], ◌∷◌, ◌++◌, append_assoc, append-nil}
use mathlib.Core.Bool.{true, ◌&&◌, false≢true}
use Prim.Native.Nat.{ℕ, zero, suc, ◌+◌, ◌-◌, ◌≤◌}
use native.Mathlib.Omega.{arith}
use lib.Dec.{leb}
use borrow.Author.Tests.{ltb-true, leb-true, le-leb}
use Rattle.words.proofs.Tests.{and_true_l, and_true_r}
use Rattle.logic.specs.Formula.{Formula, depth, over}
use Rattle.logic.specs.Nodes.{nodes, Spelling, spelled, with_node, joined, single, one_formula, formula_of}
use Rattle.logic.specs.Evaluation.{with_first}
use Rattle.logic.specs.Claims.{Spells}
use Rattle.logic.proofs.Spelling.{Front, front, with-name, with-not, with-form, one-formula-spells}

-- What nodes spell has these nodes

-- the nodes of formulas, one after the other
unfoldable nodes_all : List Formula → List ℕ
nodes_all [] = []
nodes_all (f ∷ fs) = nodes f ++ nodes_all fs

joined-nodes : (k : ℕ) (f g : Formula) → 65 ≤ k → k ≤ 68 → nodes (joined (k - 65) f g) ≡ (k ∷ (nodes f ++ nodes g))
unfolding nodes
joined-nodes k f g lo hi = go (k - 65) (omega arith)
  where
    go : (i : ℕ) → k ≡ i + 65 → nodes (joined i f g) ≡ (k ∷ (nodes f ++ nodes g))
    go zero e = rw e
    go (suc zero) e = rw e
    go (suc (suc zero)) e = rw e
    go (suc (suc (suc zero))) e = rw e
    go (suc (suc (suc (suc i)))) e = absurd (omega arith)

spelled-nodes : (ks : List ℕ) (fs : List Formula) → spelled ks ≡ Spelling.formulas fs → nodes_all fs ≡ ks
unfolding spelled nodes_all nodes
spelled-nodes [] fs e = let q : fs ≡ [] = cc in rw q
spelled-nodes (k ∷ ks) fs e = go (front k (spelled ks) fs e) (spelled-nodes ks)
  where
    go : Front k (spelled ks) fs → ((gs : List Formula) → spelled ks ≡ Spelling.formulas gs → nodes_all gs ≡ ks)
        → nodes_all fs ≡ (k ∷ ks)
    go (Front.of_name gs h es ef) ih = rw (ef, ih gs es)
    go (Front.of_not f gs h es ef) ih = rw (ef, h) (ap (λ (l : List ℕ). 64 ∷ l) (ih (f ∷ gs) es))
    go (Front.of_form f g gs lo hi es ef) ih =
        rw (ef, joined-nodes k f g lo hi)
        (ap (λ (l : List ℕ). k ∷ l) (append_assoc (nodes f) (nodes g) (nodes_all gs) ∙ ih (f ∷ (g ∷ gs)) es))

pub one-formula-accepted : (n : ℕ) (ks : List ℕ) → one_formula n ks ≡ true → Spells n ks (formula_of ks)
unfolding one_formula nodes_all
one-formula-accepted n ks e =
    let s = one-formula-spells n ks e in
    let f : Formula = formula_of ks in
    let b : (over n f && leb (depth f) 16) ≡ true = ap (single n) (sym s) ∙ e in
    record {
      nodes_are = sym (append-nil (nodes f)) ∙ spelled-nodes ks (f ∷ []) s;
      over-atoms = and_true_l (over n f) (leb (depth f) 16) b;
      not_deep = leb-true (depth f) 16 (and_true_r (over n f) (leb (depth f) 16) b);
    }

-- The nodes of a formula spell it

module _ (n : ℕ) (h : n ≤ 64) where
  -- the nodes of f, in front of any others, spell f in front of what those spell
  SpelledFirst : Formula → Type 0
  SpelledFirst f = (ks : List ℕ) → spelled (nodes f ++ ks) ≡ with_first f (spelled ks)

  form-spelled : (k : ℕ) (f g : Formula) → 65 ≤ k → k ≤ 68 → (over n f && over n g) ≡ true
      → (over n f ≡ true → SpelledFirst f) → (over n g ≡ true → SpelledFirst g)
      → (ks : List ℕ) → spelled (k ∷ ((nodes f ++ nodes g) ++ ks)) ≡ with_first (joined (k - 65) f g) (spelled ks)
  unfolding SpelledFirst spelled
  form-spelled k f g lo hi o p q ks =
      let e : spelled ((nodes f ++ nodes g) ++ ks) ≡ with_first f (with_first g (spelled ks)) =
      ap spelled (append_assoc (nodes f) (nodes g) ks) ∙ p (and_true_l (over n f) (over n g) o) (nodes g ++ ks)
      ∙ ap (with_first f) (q (and_true_r (over n f) (over n g) o) ks) in
      ap (with_node k) e ∙ with-form k f g (spelled ks) lo hi

  nodes-spelled : (f : Formula) → over n f ≡ true → SpelledFirst f
  unfolding SpelledFirst nodes over spelled
  nodes-spelled Formula.truth o ks = absurd (false≢true o)
  nodes-spelled Formula.falsity o ks = absurd (false≢true o)
  nodes-spelled (Formula.atom a) o ks = with-name a (spelled ks) (omega (arith, ltb-true a n o))
  nodes-spelled (Formula.negation f) o ks = ap (with_node 64) (nodes-spelled f o ks) ∙ with-not f (spelled ks)
  nodes-spelled (Formula.conjunction f g) o ks =
      form-spelled 65 f g (omega arith) (omega arith) o (nodes-spelled f) (nodes-spelled g) ks
  nodes-spelled (Formula.disjunction f g) o ks =
      form-spelled 66 f g (omega arith) (omega arith) o (nodes-spelled f) (nodes-spelled g) ks
  nodes-spelled (Formula.implication f g) o ks =
      form-spelled 67 f g (omega arith) (omega arith) o (nodes-spelled f) (nodes-spelled g) ks
  nodes-spelled (Formula.equivalence f g) o ks =
      form-spelled 68 f g (omega arith) (omega arith) o (nodes-spelled f) (nodes-spelled g) ks

  spells-spelled : (ks : List ℕ) (f : Formula) → Spells n ks f → spelled ks ≡ Spelling.formulas (f ∷ [])
  unfolding SpelledFirst spelled
  spells-spelled ks f s =
      ap spelled (sym (append-nil (nodes f) ∙ s.nodes_are)) ∙ nodes-spelled f s.over-atoms []

pub one-formula-complete : (n : ℕ) (ks : List ℕ) (f : Formula) → n ≤ 64 → Spells n ks f → one_formula n ks ≡ true
unfolding one_formula
one-formula-complete n ks f h s = rw (spells-spelled n h ks f s, s.over-atoms) (le-leb (depth f) 16 s.not_deep)

pub one-formula-unique : (n : ℕ) (ks : List ℕ) (f : Formula) → n ≤ 64 → Spells n ks f → formula_of ks ≡ f
unfolding formula_of
one-formula-unique n ks f h s = rw (spells-spelled n h ks f s)
