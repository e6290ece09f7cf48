-- Laws of spellings: what a node in front of formulas gives, what it was put in front of, and how the value and the
-- depth of the first formula follow. Assumes nothing.
use mathlib.Core.Path.{◌≡◌, refl, sym, ap, ap₂, ◌∙◌}
use mathlib.Core.List.{List, [], ◌∷◌}
use mathlib.Core.Bool.{Bool, true, false, ◌&&◌, and-false, false≢true}
use Prim.Native.Nat.{ℕ, zero, suc, ◌+◌, ◌-◌, ◌≤◌, ◌<◌, max}
use native.Mathlib.Omega.{arith}
use lib.Dec.{eqb, ltb, leb}
use borrow.Author.Tests.{lt-ltb, le-ltb, ltb-true, ltb-false, ne_eqb, eqb-true, eqb-false, le-leb, lt-leb, leb-true}
use Rattle.words.specs.Choice.{pick}
use Rattle.words.proofs.Tests.{and_true_l, and_true_r}
use Rattle.logic.specs.declared.value.Value.{Value}
use Rattle.logic.specs.Value.{negated, lesser, greater, implies, equivalent}
use Rattle.logic.specs.Formula.{Formula, value_of, depth, over}
use Rattle.logic.specs.Nodes.{Spelling, spelled, with_node, with_not, with_form, joined}
use Rattle.logic.specs.Nodes.{single, one_formula, first_of, formula_of}
use Rattle.logic.specs.Evaluation.{ReadsValue, shallow, with_first}

-- A node in front of formulas

pub with-name : (k : ℕ) (s : Spelling) → k < 64 → with_node k s ≡ with_first (Formula.atom k) s
unfolding with_node
with-name k Spelling.none h = refl
with-name k (Spelling.formulas fs) h = rw (lt-ltb k 64 h)

pub with-not : (f : Formula) (s : Spelling) → with_node 64 (with_first f s) ≡ with_first (Formula.negation f) s
unfolding with_node
with-not f Spelling.none = refl
with-not f (Spelling.formulas fs) = refl

pub with-form : (k : ℕ) (f g : Formula) (s : Spelling) → 65 ≤ k → k ≤ 68
    → with_node k (with_first f (with_first g s)) ≡ with_first (joined (k - 65) f g) s
unfolding with_node
with-form k f g Spelling.none lo hi = refl
with-form k f g (Spelling.formulas fs) lo hi =
    rw (le-ltb k 64 (omega arith), ne_eqb k 64 (omega arith), lt-ltb k 69 (omega arith))

-- the formulas s that a node k was put in front of, where that gave the formulas fs
pub data Front (k : ℕ) (s : Spelling) (fs : List Formula) : Type 0 where
  of_name : (gs : List Formula) → k < 64 → s ≡ Spelling.formulas gs → fs ≡ (Formula.atom k ∷ gs) → Front k s fs
  of_not : (f : Formula) (gs : List Formula) → k ≡ 64 → s ≡ Spelling.formulas (f ∷ gs)
      → fs ≡ (Formula.negation f ∷ gs) → Front k s fs
  of_form : (f g : Formula) (gs : List Formula) → 65 ≤ k → k ≤ 68 → s ≡ Spelling.formulas (f ∷ (g ∷ gs))
      → fs ≡ (joined (k - 65) f g ∷ gs) → Front k s fs

no_formulas : {fs : List Formula} → Spelling.none ≡ Spelling.formulas fs → ⊥
no_formulas e = let z : ◌≡◌ {A = ℕ} 0 1 = cc in omega arith

front-not : (k : ℕ) (gs fs : List Formula) → k ≡ 64 → with_not gs ≡ Spelling.formulas fs
    → Front k (Spelling.formulas gs) fs
front-not k [] fs h e = absurd (no_formulas e)
front-not k (f ∷ gs) fs h e = Front.of_not f gs h refl (cc)

front-form : (k : ℕ) (gs fs : List Formula) → 65 ≤ k → k ≤ 68 → with_form (k - 65) gs ≡ Spelling.formulas fs
    → Front k (Spelling.formulas gs) fs
front-form k [] fs lo hi e = absurd (no_formulas e)
front-form k (f ∷ []) fs lo hi e = absurd (no_formulas e)
front-form k (f ∷ (g ∷ gs)) fs lo hi e = Front.of_form f g gs lo hi refl (cc)

pub front : (k : ℕ) (s : Spelling) (fs : List Formula) → with_node k s ≡ Spelling.formulas fs → Front k s fs
unfolding with_node
front k Spelling.none fs e = absurd (no_formulas e)
front k (Spelling.formulas gs) fs e = go (ltb k 64) refl (eqb k 64) refl (ltb k 69) refl e
  where
    go : (a : Bool) → ltb k 64 ≡ a → (b : Bool) → eqb k 64 ≡ b → (c : Bool) → ltb k 69 ≡ c
        → pick a (Spelling.formulas (Formula.atom k ∷ gs))
        (pick b (with_not gs) (pick c (with_form (k - 65) gs) Spelling.none)) ≡ Spelling.formulas fs
        → Front k (Spelling.formulas gs) fs
    go true ea b eb c ec q = Front.of_name gs (ltb-true k 64 ea) refl (cc)
    go false ea true eb c ec q = front-not k gs fs (eqb-true k 64 eb) q
    go false ea false eb true ec q =
        front-form k gs fs (omega (arith, ltb-false k 64 ea, eqb-false k 64 eb)) (omega (arith, ltb-true k 69 ec)) q
    go false ea false eb false ec q = absurd (no_formulas q)

name_inv : {k : ℕ} {s : Spelling} {f : Formula} {fs : List Formula} → k < 64 → Front k s (f ∷ fs)
    → (f ≡ Formula.atom k) × (s ≡ Spelling.formulas fs)
name_inv h (Front.of_name gs q es ef) = (cc, cc)
name_inv h (Front.of_not g gs q es ef) = absurd (omega arith)
name_inv h (Front.of_form g g' gs lo hi es ef) = absurd (omega arith)

not_inv : {k : ℕ} {s : Spelling} {f : Formula} {fs : List Formula} → k ≡ 64 → Front k s (f ∷ fs)
    → (g : Formula) × (f ≡ Formula.negation g) × (s ≡ Spelling.formulas (g ∷ fs))
not_inv h (Front.of_name gs q es ef) = absurd (omega arith)
not_inv h (Front.of_not g gs q es ef) = (g, cc, cc)
not_inv h (Front.of_form g g' gs lo hi es ef) = absurd (omega arith)

form_inv : {k : ℕ} {s : Spelling} {f : Formula} {fs : List Formula} → 65 ≤ k → Front k s (f ∷ fs)
    → (g h : Formula) × (f ≡ joined (k - 65) g h) × (s ≡ Spelling.formulas (g ∷ (h ∷ fs)))
form_inv h (Front.of_name gs q es ef) = absurd (omega arith)
form_inv h (Front.of_not g gs q es ef) = absurd (omega arith)
form_inv h (Front.of_form g g' gs lo hi es ef) = (g, g', cc, cc)

high_inv : {k : ℕ} {s : Spelling} {fs : List Formula} → 68 < k → Front k s fs → ⊥
high_inv h (Front.of_name gs q es ef) = omega arith
high_inv h (Front.of_not g gs q es ef) = omega arith
high_inv h (Front.of_form g g' gs lo hi es ef) = omega arith

-- No first formula

pub high_none : (k : ℕ) (s : Spelling) {fs : List Formula} → 68 < k → with_node k s ≡ Spelling.formulas fs → ⊥
high_none k s {fs} h e = high_inv h (front k s fs e)

pub operand_none : (k : ℕ) (s : Spelling) {fs : List Formula} → 64 ≤ k
    → ((f : Formula) (fs : List Formula) → s ≡ Spelling.formulas (f ∷ fs) → ⊥)
    → with_node k s ≡ Spelling.formulas fs → ⊥
operand_none k s {fs} h r e = go (front k s fs e)
  where
    go : Front k s fs → ⊥
    go (Front.of_name gs q es ef) = omega arith
    go (Front.of_not g gs q es ef) = r g gs es
    go (Front.of_form g g' gs lo hi es ef) = r g (g' ∷ gs) es

pub second_none : (v : ℕ → Value) (k : ℕ) (s : Spelling) (x : Value) (t : Spelling) {fs : List Formula} → 65 ≤ k
    → ReadsValue v s x t → ((f : Formula) (fs : List Formula) → t ≡ Spelling.formulas (f ∷ fs) → ⊥)
    → with_node k s ≡ Spelling.formulas fs → ⊥
second_none v k s x t {fs} h r o e = go (front k s fs e)
  where
    go : Front k s fs → ⊥
    go (Front.of_name gs q es ef) = omega arith
    go (Front.of_not g gs q es ef) = omega arith
    go (Front.of_form g g' gs lo hi es ef) = o g' gs (r.rest-is g (g' ∷ gs) es)

-- The value of the first formula

module _ (v : ℕ → Value) (k : ℕ) (s : Spelling) where
  pub name-value : (x : Value) → k < 64 → x ≡ v k → ReadsValue v (with_node k s) x s
  unfolding value_of
  name-value x h ex = record {
    value-is = λ f fs e. ex ∙ ap (value_of v) (sym (name_inv h (front k s (f ∷ fs) e)).0);
    rest-is = λ f fs e. (name_inv h (front k s (f ∷ fs) e)).1;
  }

  pub not-value : (x y : Value) (t : Spelling) → k ≡ 64 → ReadsValue v s x t → y ≡ negated x
      → ReadsValue v (with_node k s) y t
  unfolding value_of
  not-value x y t h r ey = record {
    value-is = λ f fs e.
        let q = not_inv h (front k s (f ∷ fs) e) in
        ey ∙ ap negated (r.value-is q.0 fs q.2) ∙ ap (value_of v) (sym q.1);
    rest-is = λ f fs e. let q = not_inv h (front k s (f ∷ fs) e) in r.rest-is q.0 fs q.2;
  }

  pub form-value : (x y z : Value) (t u : Spelling) → 65 ≤ k → ReadsValue v s x t → ReadsValue v t y u
      → ((f g : Formula) → x ≡ value_of v f → y ≡ value_of v g → z ≡ value_of v (joined (k - 65) f g))
      → ReadsValue v (with_node k s) z u
  form-value x y z t u h r r' ez = record {
    value-is = λ f fs e.
        let q = form_inv h (front k s (f ∷ fs) e) in
        let et : t ≡ Spelling.formulas (q.1 ∷ fs) = r.rest-is q.0 (q.1 ∷ fs) q.3 in
        ez q.0 q.1 (r.value-is q.0 (q.1 ∷ fs) q.3) (r'.value-is q.1 fs et)
        ∙ ap (value_of v) (sym q.2);
    rest-is = λ f fs e.
        let q = form_inv h (front k s (f ∷ fs) e) in
        r'.rest-is q.1 fs (r.rest-is q.0 (q.1 ∷ fs) q.3);
  }

-- The depth of the first formula

-- the forms of two operands with the values x and y
module _ (v : ℕ → Value) (f g : Formula) {x y : Value} (p : x ≡ value_of v f) (q : y ≡ value_of v g) where
  pub conjunction-value : lesser x y ≡ value_of v (Formula.conjunction f g)
  unfolding value_of
  conjunction-value = ap₂ lesser p q

  pub disjunction-value : greater x y ≡ value_of v (Formula.disjunction f g)
  unfolding value_of
  disjunction-value = ap₂ greater p q

  pub implication-value : implies x y ≡ value_of v (Formula.implication f g)
  unfolding value_of
  implication-value = ap₂ implies p q

  pub equivalence-value : equivalent x y ≡ value_of v (Formula.equivalence f g)
  unfolding value_of
  equivalence-value = ap₂ equivalent p q

pub joined-over : (n k : ℕ) (f g : Formula) → over n (joined k f g) ≡ (over n f && over n g)
unfolding over
joined-over n zero f g = refl
joined-over n (suc zero) f g = refl
joined-over n (suc (suc zero)) f g = refl
joined-over n (suc (suc (suc k))) f g = refl

pub joined-depth : (k : ℕ) (f g : Formula) → depth (joined k f g) ≡ 1 + max (depth f) (depth g)
unfolding depth
joined-depth zero f g = refl
joined-depth (suc zero) f g = refl
joined-depth (suc (suc zero)) f g = refl
joined-depth (suc (suc (suc k))) f g = refl

-- what stands behind a first formula
first_rest : (f : Formula) (t : Spelling) {g : Formula} {gs : List Formula}
    → with_first f t ≡ Spelling.formulas (g ∷ gs)
    → t ≡ Spelling.formulas gs
first_rest f Spelling.none e = absurd (no_formulas e)
first_rest f (Spelling.formulas fs) e = cc

module _ (n : ℕ) where
  -- a formula over the atoms and not deep
  abbrev Small : Formula → Type 0
  Small f = (over n f ≡ true) × (depth f ≤ 16)

  not-small : (f : Formula) → Small (Formula.negation f) → Small f
  unfolding over depth
  not-small f q = (q.0, omega (arith, q.1))

  joined_small : (k : ℕ) (f g : Formula) → Small (joined k f g) → Small f × Small g
  joined_small k f g q =
      let o : (over n f && over n g) ≡ true = sym (joined-over n k f g) ∙ q.0 in
      let d : 1 + max (depth f) (depth g) ≤ 16 = rw (joined-depth k f g) at q.1 in
      ((and_true_l (over n f) (over n g) o, omega arith), (and_true_r (over n f) (over n g) o, omega arith))

  shallow_false : (s : Spelling)
      → ((f : Formula) (fs : List Formula) → s ≡ Spelling.formulas (f ∷ fs) → Small f → ⊥) → shallow n s ≡ false
  shallow_false Spelling.none h = refl
  shallow_false (Spelling.formulas []) h = refl
  shallow_false (Spelling.formulas (f ∷ fs)) h = go (over n f) refl (leb (depth f) 16) refl
    where
      go : (a : Bool) → over n f ≡ a → (b : Bool) → leb (depth f) 16 ≡ b → (a && b) ≡ false
      go true ea true eb = absurd (h f fs refl (ea, leb-true (depth f) 16 eb))
      go true ea false eb = refl
      go false ea b eb = refl

  shallow_false_inv : {s : Spelling} {f : Formula} {fs : List Formula} → shallow n s ≡ false
      → s ≡ Spelling.formulas (f ∷ fs) → Small f → ⊥
  shallow_false_inv {f = f} e es q = false≢true (sym e ∙ rw (es, q.0, le-leb (depth f) 16 q.1))

  pub shallow_deep : (f : Formula) (t : Spelling) → 16 < depth f → shallow n (with_first f t) ≡ false
  shallow_deep f Spelling.none h = refl
  shallow_deep f (Spelling.formulas fs) h = rw (lt-leb (depth f) 16 h) (and-false (over n f))

  module _ (k : ℕ) (s : Spelling) where
    pub shallow-high : 68 < k → shallow n (with_node k s) ≡ false
    shallow-high h = shallow_false (with_node k s) λ f fs e q. high_inv h (front k s (f ∷ fs) e)

    pub shallow-outside : k < 64 → n ≤ k → shallow n (with_node k s) ≡ false
    unfolding over
    shallow-outside h l = shallow_false (with_node k s) λ f fs e q.
        let b : ltb k n ≡ true = ap (over n) (sym (name_inv h (front k s (f ∷ fs) e)).0) ∙ q.0 in
        omega (arith, ltb-true k n b)

    pub shallow-operand : 64 ≤ k → shallow n s ≡ false → shallow n (with_node k s) ≡ false
    shallow-operand h o = shallow_false (with_node k s) λ f fs e q. go f fs (front k s (f ∷ fs) e) q
      where
        go : (f : Formula) (fs : List Formula) → Front k s (f ∷ fs) → Small f → ⊥
        go f fs (Front.of_name gs l es ef) q = omega arith
        go f fs (Front.of_not g gs l es ef) q =
            let e : f ≡ Formula.negation g = cc in shallow_false_inv o es (not-small g (rw e at q))
        go f fs (Front.of_form g g' gs lo hi es ef) q =
            let e : f ≡ joined (k - 65) g g' = cc in shallow_false_inv o es (joined_small (k - 65) g g' (rw e at q)).0

    pub shallow-second : (f : Formula) (t : Spelling) → 65 ≤ k → s ≡ with_first f t → shallow n t ≡ false
        → shallow n (with_node k s) ≡ false
    shallow-second f t h es o = shallow_false (with_node k s) λ g gs e q.
        let i = form_inv h (front k s (g ∷ gs) e) in
        shallow_false_inv o (first_rest f t (sym es ∙ i.3)) (joined_small (k - 65) i.0 i.1 (rw i.2 at q)).1

-- nodes that pass the test are the formula they are read as
single-is : (n : ℕ) (s : Spelling) → single n s ≡ true → s ≡ Spelling.formulas (first_of s ∷ [])
single-is n Spelling.none e = absurd (false≢true e)
single-is n (Spelling.formulas []) e = absurd (false≢true e)
single-is n (Spelling.formulas (f ∷ [])) e = refl
single-is n (Spelling.formulas (f ∷ (g ∷ fs))) e = absurd (false≢true e)

pub one-formula-spells : (n : ℕ) (ks : List ℕ) → one_formula n ks ≡ true
    → spelled ks ≡ Spelling.formulas (formula_of ks ∷ [])
unfolding one_formula formula_of
one-formula-spells n ks e = single-is n (spelled ks) e
