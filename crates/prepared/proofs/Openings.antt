-- The first round with a set's additions, from the first round with none. Assumes nothing.
use mathlib.Core.Path.{◌≡◌, refl, sym, ap, ap₂, ◌∙◌}
use mathlib.Core.Bool.{Bool, true, false, not, ◌&&◌, ◌||◌, or-false, or-true, and-true, and-false, true≢false}
use mathlib.Core.List.{List, [], ◌∷◌}
use Prim.Native.Nat.{ℕ, ◌-◌, ◌^◌, ◌<◌}
use native.Mathlib.Omega.{arith}
use lib.Bits.{bit_and, bit_or, and_lt, or_lt}
use Rattle.words.specs.Choice.{pick}
use Rattle.words.specs.Bits.{has, word}
use Rattle.words.proofs.Bits.{has-zero, has-and, has-or, has-not}
use Rattle.words.proofs.Words.{word_lt, has_word, is_word}
use Rattle.logic.specs.declared.value.Value.{Value}
use Rattle.logic.specs.declared.value.Value.TheVariants.{False, Unknown, True}
use Rattle.logic.specs.Value.{is_true, is_false, greater}
use Rattle.logic.specs.Formula.{Formula, value_of, any_of}
use Rattle.logic.specs.Interpretation.{nothing, value_at}
use Rattle.logic.proofs.Values.{greater_true_r}
use Rattle.logic.proofs.Interpretations.{interpretation_eq}
use Rattle.program.specs.declared.cause.Additions.{Additions}
use Rattle.program.specs.Program.{clauses_of, added_by, program_with, headed, heads_of}
use Rattle.program.proofs.Heads.{heads-lt, heads-has}
use Rattle.settle.specs.declared.step.Stepped.{Stepped}
use Rattle.settle.specs.Step.{bodies_of, has_some, next_value, step, stepped}
use Rattle.settle.proofs.Definitions.{bodies_value, defines-append, defines-clauses, defines_added}
use Rattle.settle.proofs.Definitions.{bodies_value-append, bodies_value_added}
use Rattle.prepared.specs.declared.opening.Opening.{Opening}
use Rattle.prepared.specs.Opening.{no_additions, opening_of, opened}
use Rattle.prepared.proofs.Bodies.{next-value}

-- ---- the first value of an atom that is, or is not, a head, a fact, an assumption, and whose clauses are worth b
abbrev first_value : Bool → Bool → Bool → Value → Value
first_value h f s b = pick (h || (f || s)) (greater b (pick f True False)) Unknown

-- b is false where there is no clause
true_first : (h f s : Bool) (b : Value) → (h ≡ false → b ≡ False)
    → (is_true (first_value h false false b) || f) ≡ is_true (first_value h f s b)
true_first true true s b e = or-true (is_true (greater b False)) ∙ ap is_true (sym (greater_true_r b))
true_first true false s b e = or-false (is_true (greater b False))
true_first false true s b e = ap is_true (sym (greater_true_r b))
true_first false false true b e = ap (λ (x : Value). is_true (greater x False)) (sym (e refl))
true_first false false false b e = refl

false_first : (h f s : Bool) (b : Value) → (h ≡ false → b ≡ False)
    → ((is_false (first_value h false false b) || (s && not h)) && not f) ≡ is_false (first_value h f s b)
false_first true true s b e =
    and-false (is_false (greater b False) || s && false) ∙ ap is_false (sym (greater_true_r b))
false_first true false s b e =
    let u = is_false (greater b False) in
    and-true (u || s && false) ∙ ap (λ (t : Bool). u || t) (and-false s) ∙ or-false u
false_first false true s b e = and-false (s && true) ∙ ap is_false (sym (greater_true_r b))
false_first false false true b e = ap (λ (x : Value). is_false (greater x False)) (sym (e refl))
false_first false false false b e = refl

-- ---- the first round of a program
module _ (cl : List ℕ) (n : ℕ) where
  abbrev unknown : ℕ → Value
  unknown = value_at nothing

  -- what the clauses of the table are worth
  abbrev own : ℕ → Value
  own a = bodies_value unknown (clauses_of cl n) a

  none_false : (fs : List Formula) → has_some fs ≡ false → value_of unknown (any_of fs) ≡ False
  unfolding value_of any_of
  none_false [] e = refl
  none_false (f ∷ fs) e = absurd (true≢false e)

  own-none : (a : ℕ) → headed cl n a ≡ false → own a ≡ False
  own-none a e = none_false (bodies_of (clauses_of cl n) a) (defines-clauses cl n a ∙ e)

  first-value : (x : Additions) (a : ℕ) → a < 64 → next_value (program_with cl n x) unknown a
      ≡ first_value (headed cl n a) (has x.facts a) (has x.assumptions a) (own a)
  first-value x a l =
      next-value (program_with cl n x) unknown a
      ∙ ap₂ (λ (d : Bool) (b : Value). pick d b Unknown)
      (defines-append (clauses_of cl n) (added_by x) a ∙ ap₂ ◌||◌ (defines-clauses cl n a) (defines_added x a l))
      (bodies_value-append unknown (clauses_of cl n) (added_by x) a
      ∙ ap (greater (own a)) (bodies_value_added x a unknown l))

  first-none : (a : ℕ) → a < 64
      → next_value (program_with cl n no_additions) unknown a ≡ first_value (headed cl n a) false false (own a)
  first-none a l =
      first-value no_additions a l
      ∙ ap₂ (λ (f s : Bool). first_value (headed cl n a) f s (own a)) (has-zero a) (has-zero a)

  -- a bit of the opening's words, which hold the atoms whose first value passes a test
  first_bit : (q : Value → Bool) (a : ℕ) → a < 64
      → has (word 64 (λ b. q (next_value (program_with cl n no_additions) unknown b))) a
      ≡ q (first_value (headed cl n a) false false (own a))
  first_bit q a l =
      has_word 64 (λ b. q (next_value (program_with cl n no_additions) unknown b)) a l ∙ ap q (first-none a l)

  -- ---- with a set's additions
  module _ (x : Additions) (hf : x.facts < 2 ^ 64) (hs : x.assumptions < 2 ^ 64) where
    abbrev o : Opening
    o = opening_of cl n

    opened_trues : bit_or o.trues x.facts ≡ (step (program_with cl n x) nothing).trues
    unfolding opening_of step
    opened_trues =
        is_word 64 _ (λ a. is_true (next_value (program_with cl n x) unknown a)) (or_lt 64 _ _ (word_lt 64 _) hf)
        (λ a l. has-or o.trues x.facts a
        ∙ ap (λ (t : Bool). t || has x.facts a) (first_bit is_true a l)
        ∙ true_first (headed cl n a) (has x.facts a) (has x.assumptions a) (own a) (own-none a)
        ∙ ap is_true (sym (first-value x a l)))

    -- the assumptions that are no heads
    free : (a : ℕ) → a < 64 → has (bit_and x.assumptions (2 ^ 64 - 1 - heads_of cl n)) a
        ≡ (has x.assumptions a && not (headed cl n a))
    free a l =
        has-and x.assumptions (2 ^ 64 - 1 - heads_of cl n) a
        ∙ ap (λ (t : Bool). has x.assumptions a && t)
        (has-not 64 (heads_of cl n) a (heads-lt cl n) l ∙ ap not (heads-has cl n a l))

    opened_falses : (opened o x).falses ≡ (step (program_with cl n x) nothing).falses
    unfolding opening_of step
    opened_falses =
        let w = bit_and x.assumptions (2 ^ 64 - 1 - heads_of cl n) in
        is_word 64 _ (λ a. is_false (next_value (program_with cl n x) unknown a))
        (and_lt 64 _ _ (or_lt 64 _ _ (word_lt 64 _) (and_lt 64 _ _ hs (omega arith))) (omega arith))
        (λ a l. has-and (bit_or o.falses w) (2 ^ 64 - 1 - x.facts) a
        ∙ ap₂ ◌&&◌ (has-or o.falses w a ∙ ap₂ ◌||◌ (first_bit is_false a l) (free a l)) (has-not 64 x.facts a hf l)
        ∙ false_first (headed cl n a) (has x.facts a) (has x.assumptions a) (own a) (own-none a)
        ∙ ap is_false (sym (first-value x a l)))

    pub opened-step : opened o x ≡ step (program_with cl n x) nothing
    opened-step = interpretation_eq opened_trues opened_falses

-- ---- the opening from the step with nothing added
pub opening-is : (cl : List ℕ) (n : ℕ) (r : Stepped) (heads : ℕ)
    → r ≡ stepped (program_with cl n no_additions) nothing → heads ≡ heads_of cl n
    → record { trues = r.interpretation.trues; falses = r.interpretation.falses; heads = heads } ≡ opening_of cl n
unfolding opening_of
opening-is cl n r heads e f =
    λ k. record { trues = (e k).interpretation.trues; falses = (e k).interpretation.falses; heads = f k }
