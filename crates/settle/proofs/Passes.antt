-- The step by one pass over the clauses: what the interpretation is before, after each clause, and at the end.
-- Assumes nothing.
use mathlib.Core.Path.{◌≡◌, refl, sym, ap, ap₂, subst, ◌∙◌}
use mathlib.Core.Bool.{Bool, true, false, not, ◌&&◌, ◌||◌, true≢false}
use mathlib.Core.List.{List}
use Prim.Native.Nat.{ℕ, zero, suc, ◌+◌, ◌-◌, ◌^◌, ◌≤◌, ◌<◌}
use native.Mathlib.Nat.{lt_of_le_of_lt}
use native.Mathlib.Omega.{arith}
use native.Mathlib.Numerals.{add-one}
use lib.Bits.{bit_and, bit_or, and_le_l, and_lt, or_lt}
use lib.Pow.{pow_pos}
use lib.Dec.{eqb}
use borrow.Author.Tests.{eqb-true, eq-eqb}
use Rattle.words.specs.Choice.{pick}
use Rattle.words.specs.Bits.{has, word}
use Rattle.words.proofs.Below.{any_false}
use Rattle.words.proofs.Bits.{has-zero, has-and, has-or, has-not, has_ext}
use Rattle.words.proofs.Words.{is_word}
use Rattle.logic.specs.declared.value.Value.{Value}
use Rattle.logic.specs.declared.value.Value.TheVariants.{False, Unknown, True}
use Rattle.logic.specs.declared.interpretation.Interpretation.{Interpretation}
use Rattle.logic.specs.Value.{is_true, is_false, greater}
use Rattle.logic.specs.Formula.{value_of}
use Rattle.logic.specs.Interpretation.{value_at, of_values, Disjoint, newly_decided}
use Rattle.logic.specs.Assigned.{assigned}
use Rattle.logic.proofs.Values.{greater_false_r}
use Rattle.logic.proofs.Interpretations.{interpretation_eq, values_at, values_ext, values_good}
use Rattle.program.specs.declared.cause.Additions.{Additions}
use Rattle.program.specs.Case.{head_at}
use Rattle.program.specs.Program.{clause_at, clauses_of, added_by, program_with, headed, heads_of}
use Rattle.program.proofs.Heads.{head-lt, heads-lt, heads-has}
use Rattle.settle.specs.declared.step.Stepped.{Stepped}
use Rattle.settle.specs.Step.{bodies_of, given, next_value, step, stepped}
use Rattle.settle.proofs.Given.{given-some, given-none}
use Rattle.settle.proofs.Definitions.{defines, bodies_value, defines-append, defines-clauses, defines_added}
use Rattle.settle.proofs.Definitions.{bodies_value-more, bodies_value_added}

-- after k of n clauses, an atom that the whole program defines has the value of its bodies so far
abbrev pub passed : (ℕ → Value) → List ℕ → ℕ → Additions → ℕ → ℕ → Value
passed v cl n x k a = pick (defines (program_with cl n x) a) (bodies_value v (program_with cl k x) a) Unknown

-- the interpretation in which every defined atom is false, and added facts are true
abbrev pub start : ℕ → Additions → Interpretation
start heads x = record {
  trues = x.facts;
  falses = bit_and (bit_or heads x.assumptions) (2 ^ 64 - 1 - x.facts);
}

-- the interpretation in which an atom has at least the value w: what raising gives
abbrev pub raised : Interpretation → ℕ → Value → Interpretation
raised i a w = of_values (assigned (value_at i) a (greater (value_at i a) w))

pub raised-disjoint : (i j : Interpretation) (a : ℕ) (w : Value) → i ≡ raised j a w → Disjoint i
raised-disjoint i j a w e =
    subst Disjoint (sym e) (values_good (assigned (value_at j) a (greater (value_at j a) w))).disjoint

-- the interpretation after k clauses, from j: each raises its head to the value of its body under v
unfoldable pub walked : (ℕ → Value) → List ℕ → Interpretation → ℕ → Interpretation
walked v cl j zero = j
walked v cl j (suc k) = raised (walked v cl j k) (head_at cl k) (value_of v (clause_at cl k).body)

pub walked_more : (v : ℕ → Value) (cl : List ℕ) (i j : Interpretation) (k : ℕ) → i ≡ walked v cl j k
    → raised i (head_at cl k) (value_of v (clause_at cl k).body) ≡ walked v cl j (k + 1)
unfolding walked
walked_more v cl i j k e =
    ap (λ (m : Interpretation). raised m (head_at cl k) (value_of v (clause_at cl k).body)) e
    ∙ ap (walked v cl j) (sym (add-one k))

-- nothing is both true and false at the start
pub start-disjoint : (t w : ℕ) → t < 2 ^ 64 → bit_and t (bit_and w (2 ^ 64 - 1 - t)) ≡ 0
start-disjoint t w h =
    has_ext 64 _ 0 (lt_of_le_of_lt (and_le_l t _) h) (pow_pos 64)
    (λ a l. has-and t (bit_and w (2 ^ 64 - 1 - t)) a
    ∙ ap (λ (b : Bool). has t a && b)
    (has-and w (2 ^ 64 - 1 - t) a ∙ ap (λ (b : Bool). has w a && b) (has-not 64 t a h l))
    ∙ apart (has t a) (has w a) ∙ sym (has-zero a))
  where
    apart : (s b : Bool) → (s && (b && not s)) ≡ false
    apart true true = refl
    apart true false = refl
    apart false b = refl

-- ---- the atoms that a program defines
defines_with : (cl : List ℕ) (n : ℕ) (x : Additions) (a : ℕ) → a < 64
    → defines (program_with cl n x) a ≡ (headed cl n a || (has x.facts a || has x.assumptions a))
defines_with cl n x a l =
    defines-append (clauses_of cl n) (added_by x) a ∙ ap₂ ◌||◌ (defines-clauses cl n a) (defines_added x a l)

-- ---- before the first clause
-- the value at the start of an atom that is, or is not, a head, a fact, an assumption
abbrev start_value : Bool → Bool → Bool → Value
start_value h s t = pick (h || (s || t)) (pick s True False) Unknown

true_start : (h s t : Bool) → is_true (start_value h s t) ≡ s
true_start true true t = refl
true_start true false t = refl
true_start false true t = refl
true_start false false true = refl
true_start false false false = refl

false_start : (h s t : Bool) → is_false (start_value h s t) ≡ ((h || t) && not s)
false_start true true t = refl
false_start true false t = refl
false_start false true true = refl
false_start false true false = refl
false_start false false true = refl
false_start false false false = refl

module _ (v : ℕ → Value) (cl : List ℕ) (n : ℕ) (x : Additions) where
  passed_none : (a : ℕ) → a < 64
      → passed v cl n x 0 a ≡ start_value (headed cl n a) (has x.facts a) (has x.assumptions a)
  unfolding clauses_of
  passed_none a l =
      ap₂ (λ (d : Bool) (w : Value). pick d w Unknown) (defines_with cl n x a l) (bodies_value_added x a v l)

  module _ (hf : x.facts < 2 ^ 64) (hs : x.assumptions < 2 ^ 64) where
    start_trues : x.facts ≡ word 64 (λ a. is_true (passed v cl n x 0 a))
    start_trues =
        is_word 64 x.facts (λ a. is_true (passed v cl n x 0 a)) hf
        (λ a l. sym (ap is_true (passed_none a l)
        ∙ true_start (headed cl n a) (has x.facts a) (has x.assumptions a)))

    start_falses : (start (heads_of cl n) x).falses ≡ word 64 (λ a. is_false (passed v cl n x 0 a))
    start_falses =
        let w = bit_or (heads_of cl n) x.assumptions in
        is_word 64 _ (λ a. is_false (passed v cl n x 0 a))
        (and_lt 64 w (2 ^ 64 - 1 - x.facts) (or_lt 64 _ _ (heads-lt cl n) hs) (omega arith))
        (λ a l. has-and w (2 ^ 64 - 1 - x.facts) a
        ∙ ap₂ ◌&&◌
        (has-or (heads_of cl n) x.assumptions a ∙ ap (λ (b : Bool). b || has x.assumptions a) (heads-has cl n a l))
        (has-not 64 x.facts a hf l)
        ∙ sym (ap is_false (passed_none a l) ∙ false_start (headed cl n a) (has x.facts a) (has x.assumptions a)))

    start-passed : start (heads_of cl n) x ≡ of_values (passed v cl n x 0)
    start-passed = interpretation_eq start_trues start_falses

  -- ---- one clause more
  headed-at : (k : ℕ) → k < n → headed cl n (head_at cl k) ≡ true
  headed-at k l = go (headed cl n (head_at cl k)) refl
    where
      h : ℕ
      h = head_at cl k

      go : (t : Bool) → headed cl n (head_at cl k) ≡ t → t ≡ true
      go true e = refl
      go false e = absurd (true≢false (sym (eq-eqb h h refl) ∙ any_false n (λ j. eqb h (head_at cl j)) e k l))

  -- the head of a clause is defined
  defines-head : (k : ℕ) → k < n → defines (program_with cl n x) (head_at cl k) ≡ true
  defines-head k l =
      defines_with cl n x (head_at cl k) (head-lt cl k)
      ∙ ap (λ (b : Bool). b || (has x.facts (head_at cl k) || has x.assumptions (head_at cl k))) (headed-at k l)

  module _ (k : ℕ) (l : k < n) where
    abbrev head : ℕ
    head = head_at cl k

    abbrev value : Value
    value = value_of v (clause_at cl k).body

    -- the value of an atom that is, or is not, defined, and the clause's head
    abbrev more : ℕ → Bool → Bool → Value
    more a d t = pick d (greater (bodies_value v (program_with cl k x) a) (pick t value False)) Unknown

    passed-more : (a : ℕ) → passed v cl n x (suc k) a ≡ more a (defines (program_with cl n x) a) (eqb a head)
    passed-more a =
        ap (λ (u : Value). pick (defines (program_with cl n x) a) u Unknown)
        (bodies_value-more v cl (added_by x) k a)

    raised-head : greater (passed v cl n x k head) value ≡ passed v cl n x (suc k) head
    raised-head =
        ap (λ (d : Bool). greater (pick d (bodies_value v (program_with cl k x) head) Unknown) value)
        (defines-head k l)
        ∙ sym (passed-more head ∙ ap₂ (more head) (defines-head k l) (eq-eqb head head refl))

    raised-other : (a : ℕ) → eqb a head ≡ false → passed v cl n x k a ≡ passed v cl n x (suc k) a
    raised-other a e =
        sym
        (passed-more a
        ∙ ap (more a (defines (program_with cl n x) a)) e
        ∙ ap (λ (u : Value). pick (defines (program_with cl n x) a) u Unknown)
        (greater_false_r (bodies_value v (program_with cl k x) a)))

    raised_at : (a : ℕ)
        → assigned (passed v cl n x k) head (greater (passed v cl n x k head) value) a ≡ passed v cl n x (suc k) a
    raised_at a = go (eqb a head) refl
      where
        go : (t : Bool) → eqb a head ≡ t
            → pick t (greater (passed v cl n x k head) value) (passed v cl n x k a) ≡ passed v cl n x (suc k) a
        go true e = raised-head ∙ ap (passed v cl n x (suc k)) (sym (eqb-true a head e))
        go false e = raised-other a e

    raised-passed : raised (of_values (passed v cl n x k)) head value ≡ of_values (passed v cl n x (suc k))
    raised-passed =
        values_ext _ _
        (λ a m. ap₂ (λ (u y : Value). pick (eqb a head) (greater u value) y)
        (values_at (passed v cl n x k) head (head-lt cl k)) (values_at (passed v cl n x k) a m)
        ∙ raised_at a)

  -- ---- after the last clause
  passed-all : (a : ℕ) → passed v cl n x n a ≡ next_value (program_with cl n x) v a
  unfolding next_value
  passed-all a = go (defines (program_with cl n x) a) refl
    where
      go : (t : Bool) → defines (program_with cl n x) a ≡ t
          → pick t (bodies_value v (program_with cl n x) a) Unknown ≡ given v (bodies_of (program_with cl n x) a)
      go true e = sym (given-some v (bodies_of (program_with cl n x) a) e)
      go false e = sym (given-none v (bodies_of (program_with cl n x) a) e)

abbrev answer_of : Interpretation → ℕ → Stepped
answer_of j d = record { interpretation = j; decided = d }

module _ (i : Interpretation) (cl : List ℕ) (n : ℕ) (x : Additions)
    (hf : x.facts < 2 ^ 64) (hs : x.assumptions < 2 ^ 64) where
  walked-passed : (k : ℕ) → k ≤ n
      → walked (value_at i) cl (start (heads_of cl n) x) k ≡ of_values (passed (value_at i) cl n x k)
  unfolding walked
  walked-passed zero l = start-passed (value_at i) cl n x hf hs
  walked-passed (suc k) l =
      ap (λ (m : Interpretation). raised m (head_at cl k) (value_of (value_at i) (clause_at cl k).body))
      (walked-passed k (omega arith))
      ∙ raised-passed (value_at i) cl n x k l

  pub walked_step : walked (value_at i) cl (start (heads_of cl n) x) n ≡ step (program_with cl n x) i
  unfolding step
  walked_step = walked-passed n (omega arith) ∙ values_ext _ _ (λ a l. passed-all (value_at i) cl n x a)

  -- the answer of the step, where the walk ends at j and d atoms are newly decided there
  pub walked-stepped : {j : Interpretation} {d : ℕ} → j ≡ step (program_with cl n x) i → d ≡ newly_decided i j
      → answer_of j d ≡ stepped (program_with cl n x) i
  walked-stepped e f = λ k. answer_of (e k) ((f ∙ ap (newly_decided i) e) k)
