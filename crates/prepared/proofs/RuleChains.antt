-- Chains of rules: the last rule of a head, and the walk along its rules from the last to the first.
-- Assumes nothing.
use mathlib.Core.Path.{◌≡◌, refl, sym, ap, ◌∙◌}
use mathlib.Core.Bool.{Bool, true, false}
use mathlib.Core.List.{List}
use Prim.Native.Nat.{ℕ, zero, suc, ◌≤◌}
use native.Mathlib.Omega.{arith}
use lib.Dec.{eqb, leb}
use borrow.Author.Tests.{eqb-true}
use Rattle.words.specs.Choice.{pick}
use Rattle.words.proofs.Tests.{and_true_l}
use Rattle.logic.specs.declared.value.Value.{Value}
use Rattle.logic.specs.declared.value.Value.TheVariants.{False}
use Rattle.logic.specs.Value.{greater}
use Rattle.logic.proofs.Values.{greater_comm, greater-assoc, greater_false_r}
use Rattle.program.specs.Case.{head_at, kind_at}
use Rattle.prepared.specs.Chains.{rule_for, last_of, rule_value, rules_value}

-- ---- the last rule
module _ (cl : List ℕ) (a : ℕ) where
  -- the number that it has is a rule's
  last-rule : (m j : ℕ) → last_of cl a m ≡ suc j → (rule_for cl a j ≡ true) × (suc j ≤ m)
  unfolding last_of
  last-rule zero j e = absurd (omega arith)
  last-rule (suc m) j e = go (last-rule m j) (rule_for cl a m) refl e
    where
      go : (last_of cl a m ≡ suc j → (rule_for cl a j ≡ true) × (suc j ≤ m)) → (t : Bool) → rule_for cl a m ≡ t
          → pick t (suc m) (last_of cl a m) ≡ suc j → (rule_for cl a j ≡ true) × (suc j ≤ suc m)
      go ih true q h = let r : m ≡ j = omega arith in (ap (rule_for cl a) (sym r) ∙ q, omega arith)
      go ih false q h = let r = ih h in (r.0, omega (arith, r.1))

  pub last-le : (m : ℕ) → last_of cl a m ≤ m
  last-le m = go (last_of cl a m) refl
    where
      go : (k : ℕ) → last_of cl a m ≡ k → last_of cl a m ≤ m
      go zero e = omega arith
      go (suc j) e = omega (arith, (last-rule m j e).1)

  -- the clauses behind it add nothing
  rules_last : (v : ℕ → Value) (m : ℕ) → rules_value v cl a (last_of cl a m) ≡ rules_value v cl a m
  unfolding last_of rules_value
  rules_last v zero = refl
  rules_last v (suc m) = go (rules_last v m) (rule_for cl a m) refl
    where
      go : rules_value v cl a (last_of cl a m) ≡ rules_value v cl a m → (t : Bool) → rule_for cl a m ≡ t
          → rules_value v cl a (pick t (suc m) (last_of cl a m))
          ≡ greater (rules_value v cl a m) (pick t (rule_value v cl m) False)
      go ih true e = ap (λ (t : Bool). greater (rules_value v cl a m) (pick t (rule_value v cl m) False)) e
      go ih false e = ih ∙ sym (greater_false_r (rules_value v cl a m))

-- ---- the walk
module _ (v : ℕ → Value) (cl : List ℕ) (a n : ℕ) where
  -- k is 0 or one more than the number of a rule for a; the best so far and the rules up to that one are all
  pub record Along (best : Value) (k : ℕ) : Type 0 where
    pub low : k ≤ n
    pub rule : (j : ℕ) → k ≡ suc j → rule_for cl a j ≡ true
    pub worth : greater best (rules_value v cl a k) ≡ rules_value v cl a n

  pub along_start : (k : ℕ) → k ≡ last_of cl a n → Along False k
  along_start k e = record {
    low = omega (arith, last-le cl a n);
    rule = λ j q. (last-rule cl a n j (sym e ∙ q)).0;
    worth = ap (rules_value v cl a) e ∙ rules_last cl a v n;
  }

  module _ (best : Value) (k : ℕ) (w : Along best k) where
    pub along_end : k ≡ 0 → best ≡ rules_value v cl a n
    unfolding rules_value
    along_end e =
        sym (greater_false_r best) ∙ ap (λ (j : ℕ). greater best (rules_value v cl a j)) (sym e) ∙ w.worth

    -- rule j is next
    module _ (j : ℕ) (e : k ≡ suc j) where
      worth-at : greater best (greater (rules_value v cl a j) (rule_value v cl j)) ≡ rules_value v cl a n
      unfolding rules_value
      worth-at =
          ap (λ (t : Bool). greater best (greater (rules_value v cl a j) (pick t (rule_value v cl j) False)))
          (sym (w.rule j e))
          ∙ ap (λ (i : ℕ). greater best (rules_value v cl a i)) (sym e) ∙ w.worth

      along_link : (i : ℕ) → i ≡ last_of cl (head_at cl j) j → i ≡ last_of cl a j
      along_link i q =
          q
          ∙ ap (λ (h : ℕ). last_of cl h j)
          (sym (eqb-true a (head_at cl j) (and_true_l (eqb a (head_at cl j)) (leb 2 (kind_at cl j)) (w.rule j e))))

      turn : (x y z : Value) → greater (greater x y) z ≡ greater y (greater z x)
      turn x y z =
          ap (λ (u : Value). greater u z) (greater_comm x y) ∙ greater-assoc y x z ∙ ap (greater y) (greater_comm x z)

      pub along_next : (b : Value) (i : ℕ) → b ≡ rule_value v cl j → i ≡ last_of cl (head_at cl j) j
          → Along (greater b best) i
      along_next b i p q = record {
        low = omega (arith, along_link i q, last-le cl a j, w.low);
        rule = λ h r. (last-rule cl a j h (sym (along_link i q) ∙ r)).0;
        worth = ap (λ (m : ℕ). greater (greater b best) (rules_value v cl a m)) (along_link i q)
            ∙ ap (greater (greater b best)) (rules_last cl a v j)
            ∙ turn b best (rules_value v cl a j)
            ∙ ap (λ (x : Value). greater best (greater (rules_value v cl a j) x)) p ∙ worth-at;
      }
