-- The digit that a subset gives to an atom is 0 or that of the setting; so what a subset adds, the setting adds.
-- Assumes nothing.
use mathlib.Core.Path.{◌≡◌, refl, sym, ap, ◌∙◌}
use mathlib.Core.Bool.{Bool, true, false, false≢true}
use mathlib.Core.List.{List, [], ◌∷◌}
use mathlib.Core.Logic.{◌⊎◌, inl, inr, ⊎_elim}
use Prim.Native.Nat.{ℕ, ◌/◌, ◌%◌, ◌<◌}
use lib.Dec.{eqb}
use Rattle.words.specs.Choice.{pick}
use Rattle.words.specs.Bits.{has, word}
use Rattle.words.proofs.Tests.{Gives}
use Rattle.words.proofs.Words.{has_word}
use Rattle.program.specs.declared.cause.Causes.{Causes}
use Rattle.program.specs.Cause.{atoms_in}
use Rattle.program.specs.Setting.{choice_of, choices_for, choices_of, digits, digit_of, additions_of}
use Rattle.explanation.specs.Subset.{subset_of}
use Rattle.explanation.proofs.Subsets.{digit_cases, subset-digit, subset-rest}

-- the digit that setting s of the causes l gives to atom b
abbrev digit_in : ℕ → List ℕ → ℕ → ℕ → ℕ
digit_in tw l s b = digit_of l (digits (choices_for tw l) s) b

-- the digit d is dropped, or it is e
abbrev Dropped : ℕ → ℕ → Type 0
Dropped d e = (d ≡ 0) ⊎ (d ≡ e)

pub subset-digit_of : (tw : ℕ) (l : List ℕ) (t s b : ℕ) → subset_of (choices_for tw l) t s ≡ true
    → Dropped (digit_in tw l t b) (digit_in tw l s b)
unfolding choices_for digits digit_of
subset-digit_of tw [] t s b h = inl refl
subset-digit_of tw (a ∷ l) t s b h =
    let c = choice_of tw a in
    own (eqb b a)
    (⊎_elim (λ (z : t % c ≡ 0). inl z) (λ z. inr z.0) (digit_cases _ _ (subset-digit c (choices_for tw l) t s h)))
    (subset-digit_of tw l (t / c) (s / c) b (subset-rest c (choices_for tw l) t s h))
  where
    own : (u : Bool) {d e f g : ℕ} → Dropped d e → Dropped f g → Dropped (pick u d f) (pick u e g)
    own true p q = p
    own false p q = q

module _ (w : Causes) (t s : ℕ) (h : subset_of (choices_of w) t s ≡ true) (a : ℕ) (l : a < 64) where
  -- the digit of an atom in setting r
  abbrev digit_at : ℕ → ℕ → ℕ
  digit_at r b = digit_in w.twofold (atoms_in w.all) r b

  -- the atoms that have digit d in setting r
  abbrev digit_word : ℕ → ℕ → ℕ
  digit_word d r = word 64 (λ b. eqb (digit_at r b) d)

  -- a digit d other than 0
  same-digit : (d : ℕ) → eqb 0 d ≡ false
      → Gives (eqb (digit_at t a) d) (eqb (digit_at s a) d)
  same-digit d z e =
      ⊎_elim
      (λ (q : digit_at t a ≡ 0). absurd (false≢true (sym z ∙ ap (λ (n : ℕ). eqb n d) (sym q) ∙ e)))
      (λ (q : digit_at t a ≡ digit_at s a). ap (λ (n : ℕ). eqb n d) (sym q) ∙ e)
      (subset-digit_of w.twofold (atoms_in w.all) t s a h)

  same_word : (d : ℕ) → eqb 0 d ≡ false → Gives (has (digit_word d t) a) (has (digit_word d s) a)
  same_word d z e =
      has_word 64 (λ b. eqb (digit_at s b) d) a l
      ∙ same-digit d z (sym (has_word 64 (λ b. eqb (digit_at t b) d) a l) ∙ e)

  pub subset_facts : Gives (has (additions_of w t).facts a) (has (additions_of w s).facts a)
  unfolding additions_of
  subset_facts = same_word 1 refl

  pub subset_assumptions : Gives (has (additions_of w t).assumptions a) (has (additions_of w s).assumptions a)
  unfolding additions_of
  subset_assumptions = same_word 2 refl
