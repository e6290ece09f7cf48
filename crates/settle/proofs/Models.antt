-- Models of the weak completion: the values that the step keeps on the atoms with clauses. The settled interpretation
-- is the least of them. Assumes nothing.
use mathlib.Core.Path.{◌≡◌, refl, sym, ap, ap₂, ◌∙◌}
use mathlib.Core.Bool.{Bool, true, false, ◌&&◌, and_assoc, false≢true}
use mathlib.Core.List.{List, [], ◌∷◌, ◌++◌}
use mathlib.Core.Logic.{⊎_elim}
use Prim.Native.Nat.{ℕ, zero, suc, ◌≤◌, ◌<◌}
use native.Mathlib.Nat.{not-suc-le-zero, le_of_suc-le-suc, eq-or-lt_of_le}
use native.Mathlib.Omega.{arith}
use Rattle.words.proofs.Tests.{true_or_false, and_true_l, and_true_r}
use Rattle.logic.specs.declared.value.Value.{Value}
use Rattle.logic.specs.declared.interpretation.Interpretation.{Interpretation}
use Rattle.logic.specs.Value.{is_true, equivalent}
use Rattle.logic.specs.Formula.{Formula, value_of, any_of}
use Rattle.logic.specs.Interpretation.{value_at}
use Rattle.logic.specs.Order.{Contained}
use Rattle.logic.proofs.Values.{is_true_lem, equivalent_self, equivalent_true}
use Rattle.logic.proofs.Order.{leq_refl, leq_unknown, leq_trans, leq_antisym}
use Rattle.logic.proofs.Interpretations.{values_at, values_contained}
use Rattle.program.specs.Program.{Clause}
use Rattle.settle.specs.Step.{bodies_of, has_some, given, next_value, step}
use Rattle.settle.specs.Rounds.{rounds, round_count, settled}
use Rattle.settle.specs.Completion.{equivalence_of, weak_completion, all_true, Model, LeastModel}
use Rattle.settle.proofs.Given.{given-some, given-none}
use Rattle.settle.proofs.Steady.{Steady, next_mono}
use Rattle.settle.proofs.Heads.{HeadsBelow, heads-below-lt}
use Rattle.settle.proofs.Reached.{nothing_contained}
use Rattle.settle.proofs.Settling.{settled-ended}

-- ---- the formulas of the weak completion
all_append : (v : ℕ → Value) (fs gs : List Formula) → all_true v (fs ++ gs) ≡ (all_true v fs && all_true v gs)
unfolding all_true
all_append v [] gs = refl
all_append v (f ∷ fs) gs =
    ap (λ (b : Bool). is_true (value_of v f) && b) (all_append v fs gs)
    ∙ sym (and_assoc (is_true (value_of v f)) (all_true v fs) (all_true v gs))

module _ (v : ℕ → Value) (a : ℕ) where
  equivalence-given : (fs : List Formula) → all_true v (equivalence_of a fs) ≡ true → has_some fs ≡ true
      → v a ≡ given v fs
  unfolding all_true value_of
  equivalence-given [] e h = absurd (false≢true h)
  equivalence-given (f ∷ fs) e h =
      equivalent_true (v a) (value_of v (any_of (f ∷ fs)))
      (is_true_lem _ (and_true_l (is_true (equivalent (v a) (value_of v (any_of (f ∷ fs))))) true e))
      ∙ sym (given-some v (f ∷ fs) refl)

  given-equivalence : (fs : List Formula) → (has_some fs ≡ true → v a ≡ given v fs)
      → all_true v (equivalence_of a fs) ≡ true
  unfolding all_true value_of
  given-equivalence [] h = refl
  given-equivalence (f ∷ fs) h =
      ap (λ (x : Value). is_true x && true)
      (ap (equivalent (v a)) (sym (h refl ∙ given-some v (f ∷ fs) refl)) ∙ equivalent_self (v a))

-- ---- models by the step
-- the step keeps v on those of n atoms that have clauses
abbrev pub Kept : ℕ → List Clause → (ℕ → Value) → Type 0
Kept n p v = (a : ℕ) → a < n → has_some (bodies_of p a) ≡ true → v a ≡ next_value p v a

module _ (p : List Clause) (v : ℕ → Value) where
  model_kept : (n : ℕ) → Model n p v → Kept n p v
  unfolding weak_completion next_value
  model_kept zero m a l = absurd (not-suc-le-zero l)
  model_kept (suc n) m a l =
      let e : (all_true v (weak_completion n p) && all_true v (equivalence_of n (bodies_of p n))) ≡ true =
      sym (all_append v (weak_completion n p) (equivalence_of n (bodies_of p n))) ∙ m in
      ⊎_elim
      (λ (q : a ≡ n). rw q (equivalence-given v n (bodies_of p n) (and_true_r (all_true v (weak_completion n p)) _ e)))
      (λ (q : a < n). model_kept n (and_true_l _ (all_true v (equivalence_of n (bodies_of p n))) e) a q)
      (eq-or-lt_of_le (le_of_suc-le-suc l))

  kept_model : (n : ℕ) → Kept n p v → Model n p v
  unfolding weak_completion all_true next_value
  kept_model zero k = refl
  kept_model (suc n) k =
      all_append v (weak_completion n p) (equivalence_of n (bodies_of p n))
      ∙ ap₂ ◌&&◌ (kept_model n (λ a l. k a (omega arith))) (given-equivalence v n (bodies_of p n) (k n (omega arith)))

fixed_model : (n : ℕ) (p : List Clause) (i : Interpretation) → n ≤ 64 → i ≡ step p i → Model n p (value_at i)
unfolding step
fixed_model n p i m e =
    kept_model p (value_at i) n
    (λ a l h. ap (λ (j : Interpretation). value_at j a) e ∙ values_at (next_value p (value_at i)) a (omega arith))

-- ---- the settled interpretation
module _ (n : ℕ) (p : List Clause) (s : Steady p) (b : HeadsBelow n p) where
  -- the step goes no further than a model
  model_next : (w : ℕ → Value) → Model n p w → Contained (next_value p w) w
  unfolding next_value
  model_next w m a =
      ⊎_elim
      (λ (e : has_some (bodies_of p a) ≡ true).
      rw (sym (model_kept p w n m a (heads-below-lt n p b a e) e)) (leq_refl (w a)))
      (λ (e : has_some (bodies_of p a) ≡ false). rw (given-none w (bodies_of p a) e) (leq_unknown (w a)))
      (true_or_false (has_some (bodies_of p a)))

  rounds_contained : (w : ℕ → Value) → Model n p w → (k : ℕ) → Contained (value_at (rounds p k)) w
  unfolding rounds step
  rounds_contained w m zero = nothing_contained w
  rounds_contained w m (suc k) = λ a.
      leq_trans (values_contained (next_value p (value_at (rounds p k))) a)
      (leq_trans (next_mono p s (value_at (rounds p k)) w (rounds_contained w m k) a) (model_next w m a))

  pub settled-least : n ≤ 64 → LeastModel n p (value_at (settled p).interpretation)
  unfolding settled
  settled-least m = record {
    is_model = fixed_model n p (rounds p (round_count p)) m (settled-ended p s).fixed;
    is-least = λ w k. rounds_contained w k (round_count p);
  }

pub least-unique : (n : ℕ) (p : List Clause) (v w : ℕ → Value) → LeastModel n p v → LeastModel n p w
    → (a : ℕ) → w a ≡ v a
least-unique n p v w h k a = leq_antisym (w a) (v a) (k.is-least v h.is_model a) (h.is-least w k.is_model a)
