-- Programs whose step gives the same values settle alike; so do those of one clause table with two sets that add the
-- same facts and add clauses for the same atoms. Assumes nothing.
use mathlib.Core.Path.{◌≡◌, refl, sym, ap, ap₂, ◌∙◌}
use mathlib.Core.Bool.{Bool, ◌&&◌, ◌||◌}
use mathlib.Core.List.{List}
use Prim.Native.Nat.{ℕ, zero, suc, ◌<◌}
use Rattle.words.specs.Choice.{pick}
use Rattle.words.specs.Below.{first, sum}
use Rattle.words.specs.Bits.{has}
use Rattle.logic.specs.declared.value.Value.{Value}
use Rattle.logic.specs.declared.value.Value.TheVariants.{False, True}
use Rattle.logic.specs.declared.interpretation.Interpretation.{Interpretation}
use Rattle.logic.specs.Value.{is_true, is_false, greater}
use Rattle.logic.specs.Formula.{Formula, value_of, any_of}
use Rattle.logic.specs.Interpretation.{among, value_at, newly_decided, same_in}
use Rattle.logic.proofs.Interpretations.{values_ext}
use Rattle.program.specs.declared.cause.Additions.{Additions}
use Rattle.program.specs.Program.{Clause, clauses_of, added_by, program_with}
use Rattle.settle.specs.Step.{bodies_of, has_some, given, next_value, step}
use Rattle.settle.specs.Rounds.{rounds, round_limit, round_count, settled}
use Rattle.settle.proofs.Given.{true_any, false_any}
use Rattle.settle.proofs.Definitions.{defines, bodies_value, defines-append, bodies_value-append}
use Rattle.settle.proofs.Definitions.{defines_added, bodies_value_added}

-- ---- programs with the same step
module _ (p q : List Clause) (same : (v : ℕ → Value) (a : ℕ) → a < 64 → next_value p v a ≡ next_value q v a) where
  step_alike : (i : Interpretation) → step p i ≡ step q i
  unfolding step
  step_alike i = values_ext (next_value p (value_at i)) (next_value q (value_at i)) (same (value_at i))

  rounds_alike : (k : ℕ) → rounds p k ≡ rounds q k
  unfolding rounds
  rounds_alike zero = refl
  rounds_alike (suc k) = ap (step p) (rounds_alike k) ∙ step_alike (rounds q k)

  count_alike : round_count p ≡ round_count q
  unfolding round_count
  count_alike = λ i. first round_limit (λ k. same_in (rounds_alike k i) (rounds_alike (suc k) i))

  settled_alike : settled p ≡ settled q
  unfolding settled rounds step
  settled_alike = λ i. record {
    interpretation = rounds_alike (count_alike i) i;
    rounds = count_alike i;
    decided = sum (count_alike i) (λ k. newly_decided (rounds_alike k i) (rounds_alike (suc k) i));
  }

-- ---- the value that bodies give, by whether there is one and by that of their "or"
given_tests : (v : ℕ → Value) (fs : List Formula)
    → given v fs ≡ among (is_true (value_of v (any_of fs))) (has_some fs && is_false (value_of v (any_of fs)))
given_tests v fs =
    ap₂ among (sym (true_any v fs)) (ap (λ (t : Bool). has_some fs && t) (sym (false_any v fs)))

given_ext : (v : ℕ → Value) (fs gs : List Formula) → has_some fs ≡ has_some gs
    → value_of v (any_of fs) ≡ value_of v (any_of gs) → given v fs ≡ given v gs
given_ext v fs gs e f =
    given_tests v fs ∙ ap₂ (λ (t : Bool) (x : Value). among (is_true x) (t && is_false x)) e f ∙ sym (given_tests v gs)

-- ---- one clause table and two sets
-- a set adds a clause for the atom a
abbrev pub adds_for : Additions → ℕ → Bool
adds_for x a = has x.facts a || has x.assumptions a

module _ (cl : List ℕ) (n : ℕ) (x y : Additions)
    (facts : (a : ℕ) → a < 64 → has x.facts a ≡ has y.facts a)
    (heads : (a : ℕ) → a < 64 → adds_for x a ≡ adds_for y a) where
  defines_alike : (a : ℕ) → a < 64 → defines (program_with cl n x) a ≡ defines (program_with cl n y) a
  defines_alike a l =
      let own = defines (clauses_of cl n) a in
      defines-append (clauses_of cl n) (added_by x) a
      ∙ ap (λ (t : Bool). own || t) (defines_added x a l ∙ heads a l ∙ sym (defines_added y a l))
      ∙ sym (defines-append (clauses_of cl n) (added_by y) a)

  bodies_alike : (v : ℕ → Value) (a : ℕ) → a < 64
      → bodies_value v (program_with cl n x) a ≡ bodies_value v (program_with cl n y) a
  bodies_alike v a l =
      bodies_value-append v (clauses_of cl n) (added_by x) a
      ∙ ap (greater (bodies_value v (clauses_of cl n) a))
      (bodies_value_added x a v l ∙ ap (λ (t : Bool). pick t True False) (facts a l)
      ∙ sym (bodies_value_added y a v l))
      ∙ sym (bodies_value-append v (clauses_of cl n) (added_by y) a)

  pub sets_alike : settled (program_with cl n x) ≡ settled (program_with cl n y)
  unfolding next_value
  sets_alike =
      settled_alike (program_with cl n x) (program_with cl n y)
      (λ v a l. given_ext v (bodies_of (program_with cl n x) a) (bodies_of (program_with cl n y) a)
      (defines_alike a l) (bodies_alike v a l))
