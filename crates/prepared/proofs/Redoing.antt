-- What a round need not look at: a decided atom stays as it is, and so does an atom none of whose clauses names a
-- changed atom. So the step on the touched, undecided atoms alone is the step. Assumes nothing.
use mathlib.Core.Path.{◌≡◌, refl, sym, ap, ap₂, ◌∙◌}
use mathlib.Core.Bool.{Bool, true, false, not, ◌&&◌, ◌||◌, and-true}
use mathlib.Core.List.{List}
use Prim.Native.Nat.{ℕ, ◌-◌, ◌^◌, ◌<◌}
use lib.Bits.{bit_and, bit_or, or_lt}
use lib.Dec.{eqb}
use Rattle.words.specs.Choice.{pick}
use Rattle.words.specs.Bits.{has}
use Rattle.words.proofs.Tests.{and_true_l, and_true_r, or_false_l, gives_false}
use Rattle.words.proofs.Below.{any_gives, any_found, any_true, any_false}
use Rattle.words.proofs.Bits.{has-and, has-not}
use Rattle.words.proofs.Counts.{Within}
use Rattle.logic.specs.declared.interpretation.Interpretation.{Interpretation}
use Rattle.logic.specs.Value.{is_true, is_false}
use Rattle.logic.specs.Interpretation.{value_at, of_values}
use Rattle.logic.specs.Order.{Contained}
use Rattle.logic.proofs.Order.{leq_decided}
use Rattle.logic.proofs.Interpretations.{Good, values_at, values_ext, decided-at, changed, unchanged-at}
use Rattle.program.specs.declared.cause.Additions.{Additions}
use Rattle.program.specs.Case.{head_at}
use Rattle.program.specs.Program.{Clause, clauses_of, added_by, program_with, headed, names}
use Rattle.settle.specs.Step.{next_value, step}
use Rattle.settle.proofs.Steady.{program-steady, next_mono}
use Rattle.settle.proofs.Reached.{step_good}
use Rattle.settle.proofs.Definitions.{defines, defines-append, defines-clauses}
use Rattle.prepared.specs.Dependents.{dependents_of, touched_from}
use Rattle.prepared.specs.Chains.{rules_value}
use Rattle.prepared.proofs.Filling.{dependents_has}
use Rattle.prepared.proofs.Bodies.{next_defined, next-same, bodies_same, bodies_rules}
use Rattle.prepared.proofs.Touching.{touches, has_touched}

-- the interpretation i with the atoms of the word d alone brought to what their rules are worth under i
abbrev pub redone : List ℕ → ℕ → Interpretation → ℕ → Interpretation
redone cl n i d = of_values (λ a. pick (has d a) (rules_value (value_at i) cl a n) (value_at i a))

-- ---- the atoms of a word that an interpretation leaves undecided
abbrev pub open_in : Interpretation → ℕ → ℕ
open_in i w = bit_and w (2 ^ 64 - 1 - bit_or i.trues i.falses)

module _ (i : Interpretation) (g : Good i) (w : ℕ) where
  pub has_open : (a : ℕ) → a < 64 → has (open_in i w) a ≡ (has w a && not (has (bit_or i.trues i.falses) a))
  has_open a l =
      has-and w (2 ^ 64 - 1 - bit_or i.trues i.falses) a
      ∙ ap (λ (b : Bool). has w a && b) (has-not 64 _ a (or_lt 64 _ _ g.trues_fit g.falses_fit) l)

-- ---- the atoms of u touch heads alone
module _ (cl : List ℕ) (n u : ℕ) where
  touched_headed : (a : ℕ) → a < 64 → has (touched_from cl n u) a ≡ true → headed cl n a ≡ true
  touched_headed a l q =
      let f = any_found 64 (touches cl n u a) (sym (has_touched cl n u a l) ∙ q) in
      any_gives n (λ k j. and_true_l (eqb a (head_at cl k)) (names cl k f.0))
      (sym (dependents_has cl n f.0 a l) ∙ and_true_r (has u f.0) _ f.2)

  touched_defined : (x : Additions) (a : ℕ) → a < 64 → has (touched_from cl n u) a ≡ true
      → defines (program_with cl n x) a ≡ true
  touched_defined x a l q =
      defines-append (clauses_of cl n) (added_by x) a
      ∙ ap (λ (b : Bool). b || defines (added_by x) a) (defines-clauses cl n a ∙ touched_headed a l q)

-- ---- t is one application of the step from s, and u has every atom that it changed
module _ (cl : List ℕ) (n : ℕ) (x : Additions) (s t : Interpretation) (e : t ≡ step (program_with cl n x) s)
    (u : ℕ) (all : Within 64 (changed t s) u) where
  abbrev p : List Clause
  p = program_with cl n x

  value-is : (a : ℕ) → a < 64 → value_at t a ≡ next_value p (value_at s) a
  unfolding step
  value-is a l = ap (λ (i : Interpretation). value_at i a) e ∙ values_at (next_value p (value_at s)) a l

  -- a head that no atom of u touches
  module _ (a : ℕ) (l : a < 64) (q : has (touched_from cl n u) a ≡ false) where
    quiet : (k : ℕ) → k < n → eqb a (head_at cl k) ≡ true → (i : ℕ) → i < 64 → names cl k i ≡ true
        → has (changed t s) i ≡ false
    quiet k j h i m g =
        let d : has (dependents_of cl n i) a ≡ true = dependents_has cl n i a l
        ∙ any_true n (λ k. eqb a (head_at cl k) && names cl k i) k j (ap₂ ◌&&◌ h g) in
        sym
        (gives_false (has u i) (has (changed t s) i) (all i m)
        (sym (ap (λ (b : Bool). has u i && b) d ∙ and-true (has u i))
        ∙ any_false 64 (touches cl n u a) (sym (has_touched cl n u a l) ∙ q) i m))

    untouched : value_at t a ≡ next_value p (value_at t) a
    untouched =
        value-is a l
        ∙ next-same p (value_at s) (value_at t) a
        (bodies_same cl a (value_at s) (value_at t) x l n
        (λ k j h i m g. sym (unchanged-at t s i (quiet k j h i m g))))

  t_good : Good t
  t_good = rw e (step_good p s)

  abbrev decided : ℕ
  decided = bit_or t.trues t.falses

  -- a head that one touches is worth what its rules are, where it is undecided
  undecided : (a : ℕ) → a < 64 → has (touched_from cl n u) a ≡ true → has decided a ≡ false
      → rules_value (value_at t) cl a n ≡ next_value p (value_at t) a
  undecided a l q d =
      let h = touched_defined cl n u x a l q in
      sym
      (next_defined p (value_at t) a h
      ∙ bodies_rules cl a (value_at t) (value_at s) x l n
      (ap is_true (sym (value-is a l ∙ next_defined p (value_at s) a h))
      ∙ or_false_l (is_true (value_at t a)) (is_false (value_at t a)) (sym (decided-at t a) ∙ d)))

  -- where the step rises
  module _ (rise : Contained (value_at s) (value_at t)) where
    stays : (a : ℕ) → a < 64 → has decided a ≡ true → value_at t a ≡ next_value p (value_at t) a
    stays a l d =
        sym
        (leq_decided (value_at t a) (next_value p (value_at t) a)
        (rw (value-is a l) (next_mono p (program-steady cl n x) (value_at s) (value_at t) rise a))
        (sym (decided-at t a) ∙ d))

    redone-at : (a : ℕ) → a < 64 → (b c : Bool) → has (touched_from cl n u) a ≡ b → has decided a ≡ c
        → pick (b && not c) (rules_value (value_at t) cl a n) (value_at t a) ≡ next_value p (value_at t) a
    redone-at a l true false q d = undecided a l q d
    redone-at a l true true q d = stays a l d
    redone-at a l false c q d = untouched a l q

    pub redone-step : redone cl n t (open_in t (touched_from cl n u)) ≡ step p t
    unfolding step
    redone-step =
        values_ext _ _
        (λ a l. ap (λ (b : Bool). pick b (rules_value (value_at t) cl a n) (value_at t a))
        (has_open t t_good (touched_from cl n u) a l)
        ∙ redone-at a l _ _ refl refl)
