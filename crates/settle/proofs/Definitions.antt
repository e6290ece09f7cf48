-- Laws of the bodies of an atom in a table's clauses and in those that a set adds: whether there is one, and the value
-- of their "or". Assumes nothing.
use mathlib.Core.Path.{◌≡◌, refl, sym, ap, ap₂, ◌∙◌}
use mathlib.Core.Bool.{Bool, true, false, ◌&&◌, ◌||◌}
use mathlib.Core.List.{List, [], ◌∷◌, ◌++◌}
use Prim.Native.Nat.{ℕ, zero, suc, ◌<◌}
use lib.Dec.{eqb}
use Rattle.words.specs.Choice.{pick, cons_if}
use Rattle.words.specs.Below.{any}
use Rattle.words.specs.Bits.{has}
use Rattle.words.proofs.Below.{any-is}
use Rattle.logic.specs.declared.value.Value.{Value}
use Rattle.logic.specs.declared.value.Value.TheVariants.{False, True}
use Rattle.logic.specs.Value.{greater}
use Rattle.logic.specs.Formula.{Formula, value_of, any_of}
use Rattle.logic.proofs.Values.{greater_comm, greater-assoc, greater_false_r}
use Rattle.program.specs.declared.cause.Additions.{Additions}
use Rattle.program.specs.Case.{head_at}
use Rattle.program.specs.Program.{Clause, clause, clause_at, clauses_of, clause_if, added_below, added_by, headed}
use Rattle.settle.specs.Step.{bodies_of, has_some}
use Rattle.settle.proofs.Given.{bodies_append, some-append, any_append}

-- some clause of p has the head a
abbrev pub defines : List Clause → ℕ → Bool
defines p a = has_some (bodies_of p a)

-- the value of the "or" of the bodies that p has for the atom a
abbrev pub bodies_value : (ℕ → Value) → List Clause → ℕ → Value
bodies_value v p a = value_of v (any_of (bodies_of p a))

-- ---- programs of two parts, and of one clause
pub defines-append : (p q : List Clause) (a : ℕ) → defines (p ++ q) a ≡ (defines p a || defines q a)
defines-append p q a = ap has_some (bodies_append p q a) ∙ some-append (bodies_of p a) (bodies_of q a)

pub bodies_value-append : (v : ℕ → Value) (p q : List Clause) (a : ℕ)
    → bodies_value v (p ++ q) a ≡ greater (bodies_value v p a) (bodies_value v q a)
bodies_value-append v p q a =
    ap (λ (fs : List Formula). value_of v (any_of fs)) (bodies_append p q a)
    ∙ any_append v (bodies_of p a) (bodies_of q a)

defines-one : (c : Clause) (a : ℕ) → defines (c ∷ []) a ≡ eqb a c.head
unfolding bodies_of
defines-one c a = go (eqb a c.head)
  where
    go : (t : Bool) → has_some (cons_if t c.body []) ≡ t
    go true = refl
    go false = refl

bodies_value-one : (v : ℕ → Value) (c : Clause) (a : ℕ)
    → bodies_value v (c ∷ []) a ≡ pick (eqb a c.head) (value_of v c.body) False
unfolding bodies_of value_of any_of
bodies_value-one v c a = go (eqb a c.head)
  where
    go : (t : Bool) → value_of v (any_of (cons_if t c.body [])) ≡ pick t (value_of v c.body) False
    go true = greater_false_r (value_of v c.body)
    go false = refl

-- ---- the clauses of a table
pub defines-clauses : (cl : List ℕ) (n a : ℕ) → defines (clauses_of cl n) a ≡ headed cl n a
unfolding clauses_of bodies_of clause_at
defines-clauses cl zero a = refl
defines-clauses cl (suc n) a =
    defines-append (clauses_of cl n) (clause_at cl n ∷ []) a
    ∙ ap₂ ◌||◌ (defines-clauses cl n a) (defines-one (clause_at cl n) a)

-- one clause more, whatever stands behind them
pub bodies_value-more : (v : ℕ → Value) (cl : List ℕ) (q : List Clause) (k a : ℕ)
    → bodies_value v (clauses_of cl (suc k) ++ q) a
    ≡ greater (bodies_value v (clauses_of cl k ++ q) a)
    (pick (eqb a (head_at cl k)) (value_of v (clause_at cl k).body) False)
unfolding clauses_of clause_at
bodies_value-more v cl q k a =
    let p = clauses_of cl k in
    let one = clause_at cl k ∷ [] in
    bodies_value-append v (p ++ one) q a
    ∙ ap (λ (x : Value). greater x (bodies_value v q a)) (bodies_value-append v p one a)
    ∙ swap (bodies_value v p a) (bodies_value v one a) (bodies_value v q a)
    ∙ ap₂ greater (sym (bodies_value-append v p q a)) (bodies_value-one v (clause_at cl k) a)
  where
    swap : (x y z : Value) → greater (greater x y) z ≡ greater (greater x z) y
    swap x y z = greater-assoc x y z ∙ ap (greater x) (greater_comm y z) ∙ sym (greater-assoc x z y)

-- ---- the clauses that a set adds
defines_if : (t : Bool) (b : ℕ) (f : Formula) (a : ℕ) → defines (clause_if t (clause b f)) a ≡ (t && eqb a b)
unfolding bodies_of
defines_if true b f a = defines-one (clause b f) a
defines_if false b f a = refl

bodies_value_if : (v : ℕ → Value) (t : Bool) (b : ℕ) (f : Formula) (a : ℕ)
    → bodies_value v (clause_if t (clause b f)) a ≡ pick (t && eqb a b) (value_of v f) False
unfolding bodies_of value_of any_of
bodies_value_if v true b f a = bodies_value-one v (clause b f) a
bodies_value_if v false b f a = refl

module _ (x : Additions) (a : ℕ) where
  -- what is added for the atom b alone
  added_at : ℕ → List Clause
  added_at b =
      clause_if (has x.facts b) (clause b Formula.truth)
      ++ clause_if (has x.assumptions b) (clause b Formula.falsity)

  or-and : (s t e : Bool) → (s && e || t && e) ≡ ((s || t) && e)
  or-and true true true = refl
  or-and true true false = refl
  or-and true false true = refl
  or-and true false false = refl
  or-and false t e = refl

  defines-below : (n : ℕ)
      → defines (added_below x n) a ≡ any n (λ b. (has x.facts b || has x.assumptions b) && eqb a b)
  unfolding added_below bodies_of added_at
  defines-below zero = refl
  defines-below (suc b) =
      let s = has x.facts b in
      let t = has x.assumptions b in
      defines-append (added_below x b) (added_at b) a
      ∙ ap₂ ◌||◌ (defines-below b)
      (defines-append (clause_if s (clause b Formula.truth)) (clause_if t (clause b Formula.falsity)) a
      ∙ ap₂ ◌||◌ (defines_if s b Formula.truth a) (defines_if t b Formula.falsity a) ∙ or-and s t (eqb a b))

  -- a set defines its facts and its assumptions
  pub defines_added : a < 64 → defines (added_by x) a ≡ (has x.facts a || has x.assumptions a)
  defines_added l = defines-below 64 ∙ any-is 64 (λ b. has x.facts b || has x.assumptions b) a l

  pick-or : (s t : Bool) → greater (pick s True False) (pick t True False) ≡ pick (s || t) True False
  pick-or true t = refl
  pick-or false t = refl

  pick_false : (t : Bool) → pick t False False ≡ False
  pick_false true = refl
  pick_false false = refl

  bodies_value-at : (v : ℕ → Value) (b : ℕ)
      → bodies_value v (added_at b) a ≡ pick (has x.facts b && eqb a b) True False
  unfolding value_of added_at
  bodies_value-at v b =
      let s = has x.facts b in
      let t = has x.assumptions b in
      bodies_value-append v (clause_if s (clause b Formula.truth)) (clause_if t (clause b Formula.falsity)) a
      ∙ ap₂ greater (bodies_value_if v s b Formula.truth a)
      (bodies_value_if v t b Formula.falsity a ∙ pick_false (t && eqb a b))
      ∙ greater_false_r (pick (s && eqb a b) True False)

  bodies_value-below : (v : ℕ → Value) (n : ℕ)
      → bodies_value v (added_below x n) a ≡ pick (any n (λ b. has x.facts b && eqb a b)) True False
  unfolding added_below bodies_of value_of any_of added_at
  bodies_value-below v zero = refl
  bodies_value-below v (suc b) =
      bodies_value-append v (added_below x b) (added_at b) a
      ∙ ap₂ greater (bodies_value-below v b) (bodies_value-at v b)
      ∙ pick-or (any b (λ i. has x.facts i && eqb a i)) (has x.facts b && eqb a b)

  -- the "or" of what a set adds for an atom is true where it adds a fact
  pub bodies_value_added : (v : ℕ → Value) → a < 64
      → bodies_value v (added_by x) a ≡ pick (has x.facts a) True False
  bodies_value_added v l =
      bodies_value-below v 64 ∙ ap (λ (t : Bool). pick t True False) (any-is 64 (has x.facts) a l)
