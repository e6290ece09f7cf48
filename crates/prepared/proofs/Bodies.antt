-- An atom's next value: only the atoms that its clauses name matter to it, and where none of its clauses is a fact its
-- rules decide it. Assumes nothing.
use mathlib.Core.Path.{◌≡◌, refl, sym, ap, ap₂, ◌∙◌}
use mathlib.Core.Bool.{Bool, true, false, ◌&&◌, true≢false}
use mathlib.Core.List.{List}
use Prim.Native.Nat.{ℕ, zero, suc, ◌<◌}
use native.Mathlib.Omega.{arith}
use lib.Dec.{eqb, leb}
use borrow.Author.Tests.{le-leb}
use Rattle.words.specs.Choice.{pick}
use Rattle.words.specs.Bits.{has}
use Rattle.words.proofs.Tests.{or_false_l, or_false_r}
use Rattle.logic.specs.declared.value.Value.{Value}
use Rattle.logic.specs.declared.value.Value.TheVariants.{False, Unknown, True}
use Rattle.logic.specs.Value.{is_true, greater}
use Rattle.logic.specs.Formula.{Formula, value_of, body}
use Rattle.logic.proofs.Values.{true_greater}
use Rattle.logic.proofs.Bodies.{body_same}
use Rattle.program.specs.declared.cause.Additions.{Additions}
use Rattle.program.specs.Case.{head_at, kind_at, plain_at, negated_at}
use Rattle.program.specs.Program.{Clause, by_kind, clause_at, clauses_of, added_by, program_with, names}
use Rattle.settle.specs.Step.{bodies_of, given, next_value}
use Rattle.settle.proofs.Given.{given-some, given-none}
use Rattle.settle.proofs.Definitions.{defines, bodies_value, bodies_value-more, bodies_value_added}
use Rattle.prepared.specs.Chains.{rule_for, rule_value, rules_value}

-- ---- the next value by the "or" of the bodies
pub next-value : (p : List Clause) (v : ℕ → Value) (a : ℕ)
    → next_value p v a ≡ pick (defines p a) (bodies_value v p a) Unknown
unfolding next_value
next-value p v a = go (defines p a) refl
  where
    go : (t : Bool) → defines p a ≡ t → given v (bodies_of p a) ≡ pick t (bodies_value v p a) Unknown
    go true e = given-some v (bodies_of p a) e
    go false e = given-none v (bodies_of p a) e

pub next_defined : (p : List Clause) (v : ℕ → Value) (a : ℕ) → defines p a ≡ true
    → next_value p v a ≡ bodies_value v p a
next_defined p v a e = next-value p v a ∙ ap (λ (t : Bool). pick t (bodies_value v p a) Unknown) e

pub next-same : (p : List Clause) (v w : ℕ → Value) (a : ℕ) → bodies_value v p a ≡ bodies_value w p a
    → next_value p v a ≡ next_value p w a
next-same p v w a e =
    next-value p v a ∙ ap (λ (x : Value). pick (defines p a) x Unknown) e ∙ sym (next-value p w a)

-- what clause k gives the atom a
abbrev clause_value : (ℕ → Value) → List ℕ → ℕ → ℕ → Value
clause_value v cl a k = pick (eqb a (head_at cl k)) (value_of v (clause_at cl k).body) False

-- ---- clauses that name no changed atom
kind-same : (v w : ℕ → Value) (m : ℕ) (f : Formula) → value_of v f ≡ value_of w f
    → value_of v (by_kind m f) ≡ value_of w (by_kind m f)
unfolding value_of
kind-same v w zero f e = refl
kind-same v w (suc zero) f e = refl
kind-same v w (suc (suc m)) f e = e

module _ (cl : List ℕ) (a : ℕ) (v w : ℕ → Value) where
  -- v and w agree on the atoms that clause k names, if its head is a
  abbrev Agree : ℕ → Type 0
  Agree k = eqb a (head_at cl k) ≡ true → (i : ℕ) → i < 64 → names cl k i ≡ true → v i ≡ w i

  clause-same : (k : ℕ) → Agree k → clause_value v cl a k ≡ clause_value w cl a k
  unfolding clause_at
  clause-same k e = go (eqb a (head_at cl k)) e
    where
      go : (t : Bool) → (t ≡ true → (i : ℕ) → i < 64 → names cl k i ≡ true → v i ≡ w i)
          → pick t (value_of v (clause_at cl k).body) False ≡ pick t (value_of w (clause_at cl k).body) False
      go true h = kind-same v w (kind_at cl k) _ (body_same v w (plain_at cl k) (negated_at cl k) (h refl))
      go false h = refl

  pub bodies_same : (x : Additions) → a < 64 → (n : ℕ) → ((k : ℕ) → k < n → Agree k)
      → bodies_value v (program_with cl n x) a ≡ bodies_value w (program_with cl n x) a
  unfolding clauses_of
  bodies_same x l zero e = bodies_value_added x a v l ∙ sym (bodies_value_added x a w l)
  bodies_same x l (suc k) e =
      bodies_value-more v cl (added_by x) k a
      ∙ ap₂ greater (bodies_same x l k (λ j m. e j (omega arith))) (clause-same k (e k (omega arith)))
      ∙ sym (bodies_value-more w cl (added_by x) k a)

-- ---- clauses of which none is a fact: under some w none is true
module _ (cl : List ℕ) (a : ℕ) (v w : ℕ → Value) where
  clause-rule : (k : ℕ) → is_true (clause_value w cl a k) ≡ false
      → clause_value v cl a k ≡ pick (rule_for cl a k) (rule_value v cl k) False
  unfolding clause_at value_of
  clause-rule k e = go (eqb a (head_at cl k)) (kind_at cl k) e
    where
      f : Formula
      f = body (plain_at cl k) (negated_at cl k)

      go : (t : Bool) (m : ℕ) → is_true (pick t (value_of w (by_kind m f)) False) ≡ false
          → pick t (value_of v (by_kind m f)) False ≡ pick (t && leb 2 m) (value_of v f) False
      go false m h = refl
      go true zero h = absurd (true≢false h)
      go true (suc zero) h = refl
      go true (suc (suc m)) h =
          ap (λ (t : Bool). pick t (value_of v f) False) (sym (le-leb 2 (suc (suc m)) (omega arith)))

  untrue_fact : (t : Bool) → is_true (pick t True False) ≡ false → pick t True False ≡ False
  untrue_fact true e = absurd (true≢false e)
  untrue_fact false e = refl

  pub bodies_rules : (x : Additions) → a < 64 → (n : ℕ) → is_true (bodies_value w (program_with cl n x) a) ≡ false
      → bodies_value v (program_with cl n x) a ≡ rules_value v cl a n
  unfolding clauses_of rules_value
  bodies_rules x l zero e =
      bodies_value_added x a v l
      ∙ untrue_fact (has x.facts a) (ap is_true (sym (bodies_value_added x a w l)) ∙ e)
  bodies_rules x l (suc k) e =
      let r = is_true (bodies_value w (program_with cl k x) a) in
      let s = is_true (clause_value w cl a k) in
      let h = sym (true_greater (bodies_value w (program_with cl k x) a) (clause_value w cl a k))
      ∙ ap is_true (sym (bodies_value-more w cl (added_by x) k a)) ∙ e in
      bodies_value-more v cl (added_by x) k a
      ∙ ap₂ greater (bodies_rules x l k (or_false_l r s h)) (clause-rule k (or_false_r r s h))
