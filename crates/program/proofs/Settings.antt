-- Laws of settings: how many there are, the digit that a setting gives to an atom, and the words that it adds, as the
-- walk over the causes gathers them. Assumes nothing.
use mathlib.Core.Path.{◌≡◌, refl, sym, ap, ap₂, ◌∙◌}
use mathlib.Core.Bool.{Bool, true, false, ◌&&◌, ◌||◌, and-true, and-false, or-false, true≢false}
use mathlib.Core.List.{List, [], ◌∷◌}
use Prim.Native.Nat.{ℕ, zero, suc, ◌*◌, ◌/◌, ◌%◌, ◌^◌, ◌≤◌, ◌<◌}
use native.Mathlib.Nat.{pow-suc, pow-succ', le_refl, le_trans, mod-lt}
use native.Mathlib.Omega.{arith}
use lib.Dec.{eqb}
use lib.ListN.{length}
use lib.Pow.{pow_pos}
use borrow.Author.Tests.{eqb-true, ne_eqb}
use Rattle.words.specs.Choice.{pick, cons_if}
use Rattle.words.specs.Bits.{has, word}
use Rattle.words.specs.OneBit.{with_bit, without_bit, LowestOf}
use Rattle.words.proofs.Bits.{has-zero}
use Rattle.words.proofs.Words.{is_word}
use Rattle.words.proofs.BitWalks.{has_with, with_lt, without_here}
use Rattle.program.specs.declared.cause.Additions.{Additions}
use Rattle.program.specs.declared.cause.Causes.{Causes}
use Rattle.program.specs.Cause.{causes_by, atoms_from, atoms_in}
use Rattle.program.specs.Setting.{choice_of, choices_for, choices_of, product, digits, digit_of, settings_of}
use Rattle.program.specs.Setting.{additions_of}
use Rattle.program.specs.Digit.{with_digit}
use Rattle.program.proofs.Atoms.{atoms-zero, atoms_lowest}

-- ---- how many settings
pub choices_power : (l : List ℕ) → product (choices_for 0 l) ≡ 3 ^ length l
unfolding choices_for product
choices_power [] = refl
choices_power (a ∷ l) =
    ap₂ (λ (t : Bool) (n : ℕ). pick t 2 3 * n) (has-zero a) (choices_power l) ∙ sym (pow-succ' 3 (length l))

-- at least two choices a cause
pub choices_many : (tw : ℕ) (l : List ℕ) → 2 ^ length l ≤ product (choices_for tw l)
unfolding choices_for product
choices_many tw [] = omega arith
choices_many tw (a ∷ l) = go (has tw a) (choices_many tw l)
  where
    go : (u : Bool) → 2 ^ length l ≤ product (choices_for tw l)
        → 2 ^ suc (length l) ≤ pick u 2 3 * product (choices_for tw l)
    go true h = omega (arith, h, pow-suc 2 (length l))
    go false h = omega (arith, h, pow-suc 2 (length l))

pub settings-product : (w : Causes) → settings_of w ≡ product (choices_of w)
unfolding settings_of
settings-product w = refl

pub settings-none : (tw : ℕ) → settings_of (causes_by tw 0) ≡ 1
unfolding settings_of choices_for product
settings-none tw = rw atoms-zero refl

-- those of the lowest cause times those of the others
pub settings_lowest : (tw w a : ℕ) → LowestOf w a
    → settings_of (causes_by tw w) ≡ choice_of tw a * settings_of (causes_by tw (without_bit w a))
unfolding settings_of choices_for product
settings_lowest tw w a h = ap (λ (l : List ℕ). product (choices_for tw l)) (atoms_lowest w a h)

pub settings-some : (tw w : ℕ) → 1 ≤ settings_of (causes_by tw w)
unfolding settings_of
settings-some tw w = le_trans (pow_pos (length (atoms_in w))) (choices_many tw (atoms_in w))

-- ---- digits
-- the digit that setting s of the causes l gives to atom b
abbrev digit_in : ℕ → List ℕ → ℕ → ℕ → ℕ
digit_in tw l s b = digit_of l (digits (choices_for tw l) s) b

-- the same, where the causes are those of w among the n atoms from a on
abbrev pub digit_from : ℕ → ℕ → ℕ → ℕ → ℕ → ℕ → ℕ
digit_from tw w a n s b = digit_in tw (atoms_from w a n) s b

pub digit_cause : (tw w a n s b : ℕ) → has w a ≡ true
    → digit_from tw w a (suc n) s b
    ≡ pick (eqb b a) (s % choice_of tw a) (digit_from tw w (suc a) n (s / choice_of tw a) b)
unfolding atoms_from choices_for digits digit_of
digit_cause tw w a n s b e = ap (λ (t : Bool). digit_in tw (cons_if t a (atoms_from w (suc a) n)) s b) e

pub digit-other : (tw w a n s b : ℕ) → has w a ≡ false → digit_from tw w a (suc n) s b ≡ digit_from tw w (suc a) n s b
unfolding atoms_from
digit-other tw w a n s b e = ap (λ (t : Bool). digit_in tw (cons_if t a (atoms_from w (suc a) n)) s b) e

-- an atom that is none of the causes from a on has digit 0
pub digit-none : (tw w b n a s : ℕ) → ((k : ℕ) → a ≤ k → has w k ≡ true → b ≡ k → ⊥) → digit_from tw w a n s b ≡ 0
unfolding atoms_from choices_for digits digit_of
digit-none tw w b zero a s h = refl
digit-none tw w b (suc n) a s h = go (has w a) refl (λ t. digit-none tw w b n (suc a) t (λ k l. h k (omega arith)))
  where
    go : (t : Bool) → has w a ≡ t → ((r : ℕ) → digit_from tw w (suc a) n r b ≡ 0) → digit_from tw w a (suc n) s b ≡ 0
    go true e ih =
        digit_cause tw w a n s b e
        ∙ ap (λ (t : Bool). pick t (s % choice_of tw a) (digit_from tw w (suc a) n (s / choice_of tw a) b))
        (ne_eqb b a (h a (le_refl a) e))
        ∙ ih (s / choice_of tw a)
    go false e ih = digit-other tw w a n s b e ∙ ih s

-- each digit is below the choice count of its cause
some_choices : (t : Bool) → 0 < pick t 2 3
some_choices true = omega arith
some_choices false = omega arith

pub choice_some : (tw a : ℕ) → 0 < choice_of tw a
choice_some tw a = some_choices (has tw a)

pub digit-below : (tw w b n a s : ℕ) → digit_from tw w a n s b < choice_of tw b
unfolding atoms_from choices_for digits digit_of
digit-below tw w b zero a s = some_choices (has tw b)
digit-below tw w b (suc n) a s = go (has w a) refl (digit-below tw w b n (suc a))
  where
    own : (t : Bool) (r : ℕ) → eqb b a ≡ t → r < choice_of tw b → pick t (s % choice_of tw a) r < choice_of tw b
    own true r e h = rw (eqb-true b a e) (mod-lt s (some_choices (has tw a)))
    own false r e h = h

    go : (t : Bool) → has w a ≡ t → ((r : ℕ) → digit_from tw w (suc a) n r b < choice_of tw b)
        → digit_from tw w a (suc n) s b < choice_of tw b
    go true e ih = rw (digit_cause tw w a n s b e) (own (eqb b a) _ refl (ih (s / choice_of tw a)))
    go false e ih = rw (digit-other tw w a n s b e) (ih s)

-- ---- what a digit adds to each word
pub with_facts : (x : Additions) (a e : ℕ) → (with_digit x a e).facts ≡ with_bit (eqb e 1) x.facts a
with_facts x a zero = refl
with_facts x a (suc zero) = refl
with_facts x a (suc (suc zero)) = refl
with_facts x a (suc (suc (suc e))) =
    ap (λ (t : Bool). with_bit t x.facts a) (sym (ne_eqb (suc (suc (suc e))) 1 (λ q. omega arith)))

pub with_assumptions : (x : Additions) (a e : ℕ) → (with_digit x a e).assumptions ≡ with_bit (eqb e 2) x.assumptions a
with_assumptions x a zero = refl
with_assumptions x a (suc zero) = refl
with_assumptions x a (suc (suc zero)) = refl
with_assumptions x a (suc (suc (suc e))) =
    ap (λ (t : Bool). with_bit t x.assumptions a) (sym (ne_eqb (suc (suc (suc e))) 2 (λ q. omega arith)))

-- ---- one word of the walk
-- atom b has digit d in setting s of the causes w
abbrev pub has_digit : ℕ → ℕ → ℕ → ℕ → ℕ → Bool
has_digit tw w s d b = eqb (digit_from tw w 0 64 s b) d

-- y has bit b, or what is left of the setting gives b digit d, with these causes left
abbrev gathers : ℕ → ℕ → ℕ → ℕ → ℕ → ℕ → Bool
gathers tw d y rest left b = has y b || has_digit tw left rest d b

-- y has the atoms passed that have digit d, and what is left of the setting gives the causes left theirs
pub record Gathered (tw w s d y rest left : ℕ) : Type 0 where
  pub fits : y < 2 ^ 64
  pub bits : (b : ℕ) → gathers tw d y rest left b ≡ has_digit tw w s d b

pub gathered_start : (tw w s d : ℕ) → Gathered tw w s d 0 s w
gathered_start tw w s d = record {
  fits = pow_pos 64;
  bits = λ b. ap (λ (t : Bool). t || has_digit tw w s d b) (has-zero b);
}

-- the digit of atom b = a is taken out of the setting, and b is in no later one
taken_out : (y t : Bool) (x r d : ℕ) → (t ≡ true → eqb r d ≡ false)
    → ((y || (eqb x d && t)) || eqb r d) ≡ (y || eqb (pick t x r) d)
taken_out true t x r d h = refl
taken_out false true x r d h = ap₂ ◌||◌ (and-true (eqb x d)) (h refl) ∙ or-false (eqb x d)
taken_out false false x r d h = ap (λ (t : Bool). t || eqb r d) (and-false (eqb x d))

-- the digit of atom b, where a is the lowest cause
pub digit_lowest : (tw w a s b : ℕ) → LowestOf w a
    → let c = choice_of tw a in
    digit_from tw w 0 64 s b ≡ pick (eqb b a) (s % c) (digit_from tw (without_bit w a) 0 64 (s / c) b)
unfolding choices_for digits digit_of
digit_lowest tw w a s b h = ap (λ (l : List ℕ). digit_in tw l s b) (atoms_lowest w a h)

-- which the causes other than a don't give to a
pub digit-passed : (tw w a s : ℕ) → LowestOf w a → digit_from tw (without_bit w a) 0 64 s a ≡ 0
digit-passed tw w a s h =
    digit-none tw (without_bit w a) a 64 0 s
    (λ k l e q. true≢false (sym e ∙ ap (has (without_bit w a)) (sym q) ∙ without_here w a h.bit))

pub gathered_next : (tw w s d y rest left a : ℕ) → eqb 0 d ≡ false → Gathered tw w s d y rest left → LowestOf left a
    → Gathered tw w s d (with_bit (eqb (rest % choice_of tw a) d) y a) (rest / choice_of tw a) (without_bit left a)
gathered_next tw w s d y rest left a z g h = record {
  fits = with_lt (eqb (rest % choice_of tw a) d) 64 y a g.fits h.bit.small;
  bits = λ b. ap (λ (t : Bool). t || has_digit tw (without_bit left a) (rest / choice_of tw a) d b)
      (has_with (eqb (rest % choice_of tw a) d) y a b)
      ∙ taken_out (has y b) (eqb b a) (rest % choice_of tw a)
      (digit_from tw (without_bit left a) 0 64 (rest / choice_of tw a) b) d (later b)
      ∙ ap (λ (n : ℕ). has y b || eqb n d) (sym (digit_lowest tw left a rest b h)) ∙ g.bits b;
}
  where
    later : (b : ℕ) → eqb b a ≡ true → has_digit tw (without_bit left a) (rest / choice_of tw a) d b ≡ false
    later b q =
        ap (λ (n : ℕ). eqb n d) (ap (digit_from tw (without_bit left a) 0 64 (rest / choice_of tw a)) (eqb-true b a q)
        ∙ digit-passed tw left a (rest / choice_of tw a) h) ∙ z

gathered_end : (tw w s d y rest : ℕ) → eqb 0 d ≡ false → Gathered tw w s d y rest 0 → y ≡ word 64 (has_digit tw w s d)
unfolding choices_for digits digit_of
gathered_end tw w s d y rest z g =
    is_word 64 y (has_digit tw w s d) g.fits
    (λ b l. sym (or-false (has y b))
    ∙ ap (λ (t : Bool). has y b || t) (sym (ap (λ (l : List ℕ). eqb (digit_in tw l rest b) d) atoms-zero ∙ z))
    ∙ g.bits b)

-- ---- the walk over the causes: x is added so far, rest is left of setting s, and left of the causes
pub record Walked (tw w s : ℕ) (x : Additions) (rest left : ℕ) : Type 0 where
  pub facts_are : Gathered tw w s 1 x.facts rest left
  pub assumptions_are : Gathered tw w s 2 x.assumptions rest left

pub walked_start : (tw w s : ℕ) (x : Additions) → x.facts ≡ 0 → x.assumptions ≡ 0 → Walked tw w s x s w
walked_start tw w s x e f = record {
  facts_are = rw e (gathered_start tw w s 1);
  assumptions_are = rw f (gathered_start tw w s 2);
}

pub walked_next : (tw w s : ℕ) (x z : Additions) (rest left a : ℕ) → Walked tw w s x rest left → LowestOf left a
    → z ≡ with_digit x a (rest % choice_of tw a) → Walked tw w s z (rest / choice_of tw a) (without_bit left a)
walked_next tw w s x z rest left a h l q = rw q (record {
  facts_are = rw with_facts (gathered_next tw w s 1 x.facts rest left a refl h.facts_are l);
  assumptions_are = rw with_assumptions
      (gathered_next tw w s 2 x.assumptions rest left a refl h.assumptions_are l);
})

pub walked_end : (tw w s : ℕ) (x : Additions) (rest left : ℕ) → left ≡ 0 → Walked tw w s x rest left
    → x ≡ additions_of (causes_by tw w) s
unfolding additions_of
walked_end tw w s x rest left z h =
    let g : Walked tw w s x rest 0 = rw z at h in
    let p = gathered_end tw w s 1 x.facts rest refl g.facts_are in
    let q = gathered_end tw w s 2 x.assumptions rest refl g.assumptions_are in
    λ i. record { facts = p i; assumptions = q i }
