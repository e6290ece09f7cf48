-- Laws of sets of causes: what a setting adds is one; a set has only bits that the causes have; and each in which no
-- cause gets both a fact and an assumption is what some setting adds. Assumes nothing.
use mathlib.Core.Path.{◌≡◌, refl, sym, ap, ap₂, ◌∙◌}
use mathlib.Core.Bool.{Bool, true, false, ◌&&◌, true≢false, false≢true}
use mathlib.Core.List.{List, [], ◌∷◌}
use mathlib.Core.Logic.{◌⊎◌, inl, inr, ⊎_elim}
use Prim.Native.Nat.{ℕ, zero, suc, ◌+◌, ◌*◌, ◌/◌, ◌%◌, ◌^◌, ◌≤◌, ◌<◌}
use native.Mathlib.Omega.{arith}
use lib.Dec.{eqb}
use borrow.Author.Tests.{eqb-true, eqb-false}
use Rattle.words.specs.Choice.{pick, cons_if}
use Rattle.words.specs.Bits.{has}
use Rattle.words.proofs.Tests.{lt-or-le, gives_false}
use Rattle.words.proofs.Bits.{has_above}
use Rattle.words.proofs.Words.{word_lt, has_word, is_word, lt_of_bits}
use Rattle.program.specs.declared.cause.Additions.{Additions}
use Rattle.program.specs.declared.cause.Causes.{Causes}
use Rattle.program.specs.Cause.{atoms_from, atoms_in}
use Rattle.program.specs.Setting.{choice_of, choices_for, product, digit_of, settings_of, additions_of}
use Rattle.program.specs.Set.{SetOf}
use Rattle.program.proofs.Settings.{digit_from, has_digit, digit_cause, digit-other, digit-none, digit-below}

-- ---- what a setting adds, it adds for causes
module _ (w : Causes) (s a : ℕ) (l : a < 64) where
  digit-of : (d : ℕ) → eqb 0 d ≡ false → eqb (digit_from w.twofold w.all 0 64 s a) d ≡ true
      → has w.all a ≡ true
  digit-of d z e = go (has w.all a) refl
    where
      go : (t : Bool) → has w.all a ≡ t → has w.all a ≡ true
      go true h = h
      go false h =
          let n =
          digit-none w.twofold w.all a 64 0 s (λ k m f q. true≢false (sym f ∙ ap (has w.all) (sym q) ∙ h)) in
          absurd (false≢true (sym z ∙ ap (λ (k : ℕ). eqb k d) (sym n) ∙ e))

  -- and digit 2 for no cause of two choices
  two-free : eqb (digit_from w.twofold w.all 0 64 s a) 2 ≡ true → has w.twofold a ≡ false
  two-free e = go (has w.twofold a) (digit-below w.twofold w.all a 64 0 s) (eqb-true _ 2 e)
    where
      go : (t : Bool) {d : ℕ} → d < pick t 2 3 → d ≡ 2 → t ≡ false
      go true h q = absurd (omega (arith, h, q))
      go false h q = refl

  facts_digit : has (additions_of w s).facts a ≡ eqb (digit_from w.twofold w.all 0 64 s a) 1
  unfolding additions_of
  facts_digit = has_word 64 (has_digit w.twofold w.all s 1) a l

  assumptions_digit : has (additions_of w s).assumptions a ≡ eqb (digit_from w.twofold w.all 0 64 s a) 2
  unfolding additions_of
  assumptions_digit = has_word 64 (has_digit w.twofold w.all s 2) a l

  pub additions_facts_of : has (additions_of w s).facts a ≡ true → has w.all a ≡ true
  additions_facts_of e = digit-of 1 refl (sym facts_digit ∙ e)

  pub additions_assumptions_of : has (additions_of w s).assumptions a ≡ true → has w.all a ≡ true
  additions_assumptions_of e = digit-of 2 refl (sym assumptions_digit ∙ e)

  additions_assumptions_free : has (additions_of w s).assumptions a ≡ true → has w.twofold a ≡ false
  additions_assumptions_free e = two-free (sym assumptions_digit ∙ e)

pub additions_set : (w : Causes) (s : ℕ) → SetOf w (additions_of w s)
unfolding additions_of
additions_set w s = record {
  facts_fit = word_lt 64 (has_digit w.twofold w.all s 1);
  assumptions_fit = word_lt 64 (has_digit w.twofold w.all s 2);
  facts_of = λ a l. additions_facts_of w s a l;
  assumptions_of = λ a l. additions_assumptions_of w s a l;
  assumptions_free = λ a l. additions_assumptions_free w s a l;
}

-- ---- where the causes are among the m lowest atoms, so is every set of them
part-lt : (w x m : ℕ) → m ≤ 64 → w < 2 ^ m → x < 2 ^ 64 → ((a : ℕ) → a < 64 → has x a ≡ true → has w a ≡ true)
    → x < 2 ^ m
part-lt w x m h l f g =
    lt_of_bits 64 m x h f (λ a i j. sym (gives_false (has w a) (has x a) (g a j) (has_above m w a l i)))

module _ (w : Causes) (m : ℕ) (h : m ≤ 64) (l : w.all < 2 ^ m) (x : Additions) (g : SetOf w x) where
  pub set_facts_lt : x.facts < 2 ^ m
  set_facts_lt = part-lt w.all x.facts m h l g.facts_fit g.facts_of

  pub set_assumptions_lt : x.assumptions < 2 ^ m
  set_assumptions_lt = part-lt w.all x.assumptions m h l g.assumptions_fit g.assumptions_of

-- ---- the setting with given digits d, each below the choice count of its cause, of the causes l
number_of : ℕ → List ℕ → (ℕ → ℕ) → ℕ
number_of tw [] d = 0
number_of tw (a ∷ l) d = number_of tw l d * choice_of tw a + d a

-- a digit more, lowest, to a base of two or three
digit_room : (t : Bool) (n e p : ℕ) → n < p → e < pick t 2 3 → n * pick t 2 3 + e < pick t 2 3 * p
digit_room true n e p h l = omega (arith, h, l)
digit_room false n e p h l = omega (arith, h, l)

digit-back : (t : Bool) (r e : ℕ) → e < pick t 2 3
    → ((r * pick t 2 3 + e) % pick t 2 3 ≡ e) × ((r * pick t 2 3 + e) / pick t 2 3 ≡ r)
digit-back true r e l = (omega (arith, l), omega (arith, l))
digit-back false r e l = (omega (arith, l), omega (arith, l))

module _ (tw : ℕ) (d : ℕ → ℕ) (small : (a : ℕ) → d a < choice_of tw a) where
  number_lt : (l : List ℕ) → number_of tw l d < product (choices_for tw l)
  unfolding number_of choices_for product
  number_lt [] = omega arith
  number_lt (a ∷ l) =
      digit_room (has tw a) (number_of tw l d) (d a) (product (choices_for tw l)) (number_lt l) (small a)

  -- of the causes of w among the n atoms from a on
  number_from : ℕ → ℕ → ℕ → ℕ
  number_from w a n = number_of tw (atoms_from w a n) d

  number_cause : (w a n : ℕ) → has w a ≡ true
      → number_from w a (suc n) ≡ number_from w (suc a) n * choice_of tw a + d a
  unfolding number_from number_of atoms_from
  number_cause w a n e = ap (λ (t : Bool). number_of tw (cons_if t a (atoms_from w (suc a) n)) d) e

  number-other : (w a n : ℕ) → has w a ≡ false → number_from w a (suc n) ≡ number_from w (suc a) n
  unfolding number_from atoms_from
  number-other w a n e = ap (λ (t : Bool). number_of tw (cons_if t a (atoms_from w (suc a) n)) d) e

  -- atom b gets digit r from the causes behind a, or that of a
  pick-own : (a b r : ℕ) → ((b ≡ a → ⊥) → r ≡ d b) → pick (eqb b a) (d a) r ≡ d b
  pick-own a b r h = go (eqb b a) refl
    where
      go : (t : Bool) → eqb b a ≡ t → pick t (d a) r ≡ d b
      go true e = ap d (sym (eqb-true b a e))
      go false e = h (eqb-false b a e)

  -- atom b has its digit, where that is 0 unless b is one of these causes
  number-digit : (w b n a : ℕ) → (b < a → d b ≡ 0) → (a + n ≤ b → d b ≡ 0) → (has w b ≡ false → d b ≡ 0)
      → digit_from tw w a n (number_from w a n) b ≡ d b
  unfolding atoms_from digit_of
  number-digit w b zero a below above none =
      ⊎_elim (λ h. sym (below h)) (λ h. sym (above (omega arith))) (lt-or-le b a)
  number-digit w b (suc n) a below above none = go (has w a) refl (number-digit w b n (suc a))
    where
      r : ℕ
      r = number_from w (suc a) n

      go : (t : Bool) → has w a ≡ t
          → ((b < suc a → d b ≡ 0) → (suc a + n ≤ b → d b ≡ 0) → (has w b ≡ false → d b ≡ 0)
          → digit_from tw w (suc a) n r b ≡ d b)
          → digit_from tw w a (suc n) (number_from w a (suc n)) b ≡ d b
      go true e ih =
          let m = digit-back (has tw a) r (d a) (small a) in
          ap (λ (k : ℕ). digit_from tw w a (suc n) k b) (number_cause w a n e)
          ∙ digit_cause tw w a n (r * choice_of tw a + d a) b e
          ∙ ap₂ (λ (x y : ℕ). pick (eqb b a) x (digit_from tw w (suc a) n y b)) m.0 m.1
          ∙ pick-own a b (digit_from tw w (suc a) n r b)
          (λ f. ih (λ l. below (omega (arith, f))) (λ l. above (omega arith)) none)
      go false e ih =
          ap (λ (k : ℕ). digit_from tw w a (suc n) k b) (number-other w a n e) ∙ digit-other tw w a n r b e
          ∙ ih (λ l. before l (lt-or-le b a)) (λ l. above (omega arith)) none
        where
          before : b < suc a → (b < a) ⊎ (a ≤ b) → d b ≡ 0
          before l (inl h) = below h
          before l (inr h) = let q : b ≡ a = omega arith in none (ap (has w) q ∙ e)

-- ---- the digit of a cause that gets a fact (f), an assumption (u)
digit_by : Bool → Bool → ℕ
digit_by f u = pick f 1 (pick u 2 0)

-- two choices (t) have no assumption
digit-small : (t f u : Bool) → (u ≡ true → t ≡ false) → digit_by f u < pick t 2 3
unfolding digit_by
digit-small true true u h = omega arith
digit-small false true u h = omega arith
digit-small true false true h = absurd (true≢false (h refl))
digit-small false false true h = omega arith
digit-small true false false h = omega arith
digit-small false false false h = omega arith

digit-zero : (f u : Bool) → f ≡ false → u ≡ false → digit_by f u ≡ 0
unfolding digit_by
digit-zero f u e h = rw (e, h)

digit-fact : (f u : Bool) → f ≡ eqb (digit_by f u) 1
unfolding digit_by
digit-fact true u = refl
digit-fact false true = refl
digit-fact false false = refl

digit-assumption : (f u : Bool) → (f && u) ≡ false → u ≡ eqb (digit_by f u) 2
unfolding digit_by
digit-assumption true u e = e
digit-assumption false true e = refl
digit-assumption false false e = refl

-- ---- the setting of a set of the causes w in which none gets both
module _ (w : Causes) (x : Additions) (g : SetOf w x)
    (apart : (a : ℕ) → a < 64 → (has x.facts a && has x.assumptions a) ≡ false) where
  digit_at : ℕ → ℕ
  digit_at a = digit_by (has x.facts a) (has x.assumptions a)

  free : (a : ℕ) → has x.assumptions a ≡ true → has w.twofold a ≡ false
  free a e =
      ⊎_elim (λ (l : a < 64). g.assumptions_free a l e)
      (λ (l : 64 ≤ a). absurd (true≢false (sym e ∙ has_above 64 x.assumptions a g.assumptions_fit l)))
      (lt-or-le a 64)

  digit-at-small : (a : ℕ) → digit_at a < choice_of w.twofold a
  unfolding digit_at
  digit-at-small a = digit-small (has w.twofold a) (has x.facts a) (has x.assumptions a) (free a)

  setting_of : ℕ
  setting_of = number_of w.twofold (atoms_in w.all) digit_at

  setting-digit : (a : ℕ) → a < 64 → digit_from w.twofold w.all 0 64 setting_of a ≡ digit_at a
  unfolding setting_of digit_at number_from
  setting-digit a l =
      number-digit w.twofold digit_at digit-at-small w.all a 64 0
      (λ h. absurd (omega arith)) (λ h. absurd (omega arith))
      (λ e. digit-zero (has x.facts a) (has x.assumptions a)
      (sym (gives_false (has w.all a) (has x.facts a) (g.facts_of a l) e))
      (sym (gives_false (has w.all a) (has x.assumptions a) (g.assumptions_of a l) e)))

  setting_facts : x.facts ≡ (additions_of w setting_of).facts
  unfolding additions_of digit_at
  setting_facts =
      is_word 64 x.facts (has_digit w.twofold w.all setting_of 1) g.facts_fit
      (λ a l. digit-fact (has x.facts a) (has x.assumptions a)
      ∙ ap (λ (n : ℕ). eqb n 1) (sym (setting-digit a l)))

  setting_assumptions : x.assumptions ≡ (additions_of w setting_of).assumptions
  unfolding additions_of digit_at
  setting_assumptions =
      is_word 64 x.assumptions (has_digit w.twofold w.all setting_of 2) g.assumptions_fit
      (λ a l. digit-assumption (has x.facts a) (has x.assumptions a) (apart a l)
      ∙ ap (λ (n : ℕ). eqb n 2) (sym (setting-digit a l)))

  -- it is what some setting adds
  pub set-numbered : (s : ℕ) × (s < settings_of w) × (x ≡ additions_of w s)
  unfolding settings_of setting_of digit_at
  set-numbered = (
    setting_of,
    number_lt w.twofold digit_at digit-at-small (atoms_in w.all),
    λ i. record { facts = setting_facts i; assumptions = setting_assumptions i },
  )
