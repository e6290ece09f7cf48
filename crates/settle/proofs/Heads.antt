-- Programs whose heads are all below n: the step decides no atom from n on. Assumes nothing.
use mathlib.Core.Path.{◌≡◌, refl, sym, ap, ap₂, ◌∙◌}
use mathlib.Core.Bool.{Bool, true, false, false≢true}
use mathlib.Core.List.{List, [], ◌∷◌, ◌++◌}
use mathlib.Core.Logic.{⊎_elim}
use Prim.Native.Nat.{ℕ, zero, suc, ◌^◌, ◌≤◌, ◌<◌}
use native.Mathlib.Omega.{arith}
use lib.Pow.{pow_pos}
use borrow.Author.Tests.{ne_eqb}
use Rattle.words.specs.Choice.{cons_if}
use Rattle.words.specs.Bits.{has, word}
use Rattle.words.proofs.Tests.{lt-or-le}
use Rattle.words.proofs.Bits.{has_above}
use Rattle.words.proofs.Words.{word_lt, has_word, lt_of_bits}
use Rattle.logic.specs.declared.value.Value.{Value}
use Rattle.logic.specs.declared.value.Value.TheVariants.{Unknown}
use Rattle.logic.specs.Value.{is_true, is_false}
use Rattle.logic.specs.Formula.{Formula}
use Rattle.logic.specs.Interpretation.{value_at}
use Rattle.program.specs.declared.cause.Additions.{Additions}
use Rattle.program.specs.Case.{head_at}
use Rattle.program.specs.Program.{Clause, clause, clause_at, program_with}
use Rattle.settle.specs.Step.{bodies_of, has_some, next_value, step}
use Rattle.settle.specs.Rounds.{rounds}
use Rattle.settle.proofs.Given.{bodies_append, given-none}
use Rattle.settle.proofs.Programs.{program-all}

-- a test that fails from n on passes only below n
passes-lt : (q : ℕ → Bool) (n : ℕ) → ((a : ℕ) → n ≤ a → q a ≡ false) → (a : ℕ) → q a ≡ true → a < n
passes-lt q n h a e =
    ⊎_elim (λ (l : a < n). l) (λ (l : n ≤ a). absurd (false≢true (sym (h a l) ∙ e))) (lt-or-le a n)

-- no clause of p has a head from n on
abbrev pub HeadsBelow : ℕ → List Clause → Type 0
HeadsBelow n p = (a : ℕ) → n ≤ a → bodies_of p a ≡ []

-- ---- the step
module _ (n : ℕ) (p : List Clause) (b : HeadsBelow n p) where
  pub heads-below-lt : (a : ℕ) → has_some (bodies_of p a) ≡ true → a < n
  heads-below-lt = passes-lt (λ a. has_some (bodies_of p a)) n (λ a l. ap has_some (b a l))

  next-above : (v : ℕ → Value) (a : ℕ) → n ≤ a → next_value p v a ≡ Unknown
  unfolding next_value
  next-above v a l = given-none v (bodies_of p a) (ap has_some (b a l))

  -- the word of the atoms whose next value passes a test that unknown fails
  next-within : n ≤ 64 → (q : Value → Bool) → q Unknown ≡ false → (v : ℕ → Value)
      → word 64 (λ a. q (next_value p v a)) < 2 ^ n
  next-within m q f v =
      lt_of_bits 64 n _ m (word_lt 64 (λ a. q (next_value p v a)))
      (λ a l k. has_word 64 (λ c. q (next_value p v c)) a k ∙ ap q (next-above v a l) ∙ f)

  pub rounds-within : n ≤ 64 → (k : ℕ) → ((rounds p k).trues < 2 ^ n) × ((rounds p k).falses < 2 ^ n)
  unfolding rounds step
  rounds-within m zero = (pow_pos n, pow_pos n)
  rounds-within m (suc k) =
      let v = value_at (rounds p k) in
      (next-within m is_true refl v, next-within m is_false refl v)

-- ---- programs whose heads are below n
heads-below-append : (n : ℕ) (p q : List Clause) → HeadsBelow n p → HeadsBelow n q → HeadsBelow n (p ++ q)
heads-below-append n p q b c a l = bodies_append p q a ∙ ap₂ ◌++◌ (b a l) (c a l)

heads-below-none : (n : ℕ) → HeadsBelow n []
unfolding bodies_of
heads-below-none n a l = refl

heads-below-one : (n : ℕ) (c : Clause) → c.head < n → HeadsBelow n (c ∷ [])
unfolding bodies_of
heads-below-one n c h a l = ap (λ (t : Bool). cons_if t c.body []) (ne_eqb a c.head (λ e. omega arith))

bit-lt : (n w : ℕ) → w < 2 ^ n → (a : ℕ) → has w a ≡ true → a < n
bit-lt n w h = passes-lt (has w) n (λ a l. has_above n w a h l)

pub program-heads-below : (n : ℕ) (cl : List ℕ) (m : ℕ) (x : Additions) → ((k : ℕ) → k < m → head_at cl k < n)
    → x.facts < 2 ^ n → x.assumptions < 2 ^ n → HeadsBelow n (program_with cl m x)
unfolding clause_at
program-heads-below n cl m x h f g =
    program-all (HeadsBelow n) (heads-below-none n) (heads-below-append n) x
    (λ a e. heads-below-one n (clause a Formula.truth) (bit-lt n x.facts f a e))
    (λ a e. heads-below-one n (clause a Formula.falsity) (bit-lt n x.assumptions g a e))
    cl m (λ k l. heads-below-one n (clause_at cl k) (h k l))
