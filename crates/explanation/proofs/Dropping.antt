-- Laws of dropping a digit: what the digit of a cause counts is at most the setting, and the settings that lack one
-- digit are the setting less a cause's digit times its weight, for the causes that get a fact and those that get an
-- assumption. Assumes nothing.
use mathlib.Core.Path.{◌≡◌, refl, sym, ap, ap₂, ◌∙◌}
use mathlib.Core.Bool.{Bool, true, false, not, ◌&&◌, ◌||◌, and-true, and-false, or-false}
use mathlib.Core.List.{List, [], ◌∷◌}
use Prim.Native.Nat.{ℕ, zero, suc, ◌+◌, ◌-◌, ◌*◌, ◌/◌, ◌%◌, ◌≤◌, ◌<◌}
use native.Mathlib.Nat.{mul_left_comm, mul-one}
use native.Mathlib.Omega.{arith}
use lib.Dec.{eqb}
use lib.ListN.{get_or}
use lib.Pow.{pow_pos}
use borrow.Author.Tests.{eqb-true}
use Rattle.words.specs.Choice.{pick, cons_if}
use Rattle.words.specs.Below.{any}
use Rattle.words.specs.Bits.{has, word}
use Rattle.words.specs.OneBit.{BitOf}
use Rattle.words.proofs.Below.{any_ext, any-or, any_at, all-false}
use Rattle.words.proofs.Bits.{has-zero}
use Rattle.words.proofs.Words.{has_word, is_word}
use Rattle.program.specs.declared.cause.Additions.{Additions}
use Rattle.program.specs.declared.cause.Causes.{Causes}
use Rattle.program.specs.Cause.{atoms_from, atoms_in}
use Rattle.program.specs.Setting.{choice_of, choices_for, choices_of, digits, digit_of, additions_of}
use Rattle.program.proofs.Settings.{digit-none}
use Rattle.program.proofs.Sets.{additions_facts_of, additions_assumptions_of}
use Rattle.prepared.specs.Opening.{no_additions}
use Rattle.explanation.specs.Covering.{some_dropped, weight_in, Weights, Decodes}
use Rattle.explanation.proofs.Covering.{and_ext}

turn : (a b c d : Bool) → ((a || b) || (c || d)) ≡ ((b || d) || (a || c))
turn true true c d = refl
turn true false c true = refl
turn true false c false = refl
turn false true c d = refl
turn false false true true = refl
turn false false true false = refl
turn false false false d = sym (or-false d)

-- ---- digits
-- the digit that setting s of the causes l gives to atom b
abbrev digit_in : ℕ → List ℕ → ℕ → ℕ → ℕ
digit_in tw l s b = digit_of l (digits (choices_for tw l) s) b

-- a digit counts no more than the setting
digit-counts : (tw : ℕ) (l : List ℕ) (s b : ℕ) → digit_in tw l s b * weight_in tw l b ≤ s
unfolding choices_for digits digit_of weight_in
digit-counts tw [] s b = omega arith
digit-counts tw (a ∷ l) s b = go (has tw a) (eqb b a) (digit-counts tw l (s / choice_of tw a) b)
  where
    go : (u t : Bool) → digit_in tw l (s / pick u 2 3) b * weight_in tw l b ≤ s / pick u 2 3
        → pick t (s % pick u 2 3) (digit_in tw l (s / pick u 2 3) b) * pick t 1 (pick u 2 3 * weight_in tw l b) ≤ s
    go true true h = omega (arith, mul-one (s % 2))
    go false true h = omega (arith, mul-one (s % 3))
    go true false h = omega (arith, h, mul_left_comm (digit_in tw l (s / 2) b) 2 (weight_in tw l b))
    go false false h = omega (arith, h, mul_left_comm (digit_in tw l (s / 3) b) 3 (weight_in tw l b))

-- setting 0 gives each atom the digit 0, and adds nothing
zero-digit : (u : Bool) → (0 % pick u 2 3 ≡ 0) × (0 / pick u 2 3 ≡ 0)
zero-digit true = (refl, refl)
zero-digit false = (refl, refl)

digit-start : (tw : ℕ) (l : List ℕ) (b : ℕ) → digit_in tw l 0 b ≡ 0
unfolding choices_for digits digit_of
digit-start tw [] b = refl
digit-start tw (a ∷ l) b =
    let z = zero-digit (has tw a) in
    ap₂ (λ (d r : ℕ). pick (eqb b a) d (digit_in tw l r b)) z.0 z.1 ∙ go (eqb b a) (digit-start tw l b)
  where
    go : (t : Bool) → digit_in tw l 0 b ≡ 0 → pick t 0 (digit_in tw l 0 b) ≡ 0
    go true e = refl
    go false e = e

pub additions_start : (w : Causes) → no_additions ≡ additions_of w 0
unfolding additions_of
additions_start w =
    let none : (d : ℕ) → eqb 0 d ≡ false → 0 ≡ word 64 (λ a. eqb (digit_in w.twofold (atoms_in w.all) 0 a) d) =
    λ d z. is_word 64 0 _ (pow_pos 64)
    (λ a l. has-zero a ∙ sym (ap (λ (k : ℕ). eqb k d) (digit-start w.twofold (atoms_in w.all) a) ∙ z)) in
    λ i. record { facts = none 1 refl i; assumptions = none 2 refl i }

-- ---- the settings that lack one digit
-- atom b has the digit d, and the setting without it passes the test q
abbrev drops_at : (ℕ → Bool) → ℕ → List ℕ → ℕ → ℕ → ℕ → Bool
drops_at q tw l s d b = eqb (digit_in tw l s b) d && q (s - d * weight_in tw l b)

-- some atom has the digit d, and the setting without it passes the test q
abbrev some_drop : (ℕ → Bool) → ℕ → List ℕ → ℕ → ℕ → Bool
some_drop q tw l s d = any 64 (drops_at q tw l s d)

-- the test of the settings whose lowest digit is that of s, to the base c
abbrev on_rest : (ℕ → Bool) → ℕ → ℕ → ℕ → Bool
on_rest q c s t = q (s % c + c * t)

-- what the digit of another atom counts, counts as many times as there are choices behind a cause of two choices (u) or
-- three
counts_behind : (u : Bool) (s d w x : ℕ) → x * w ≤ s / pick u 2 3 → x ≡ d
    → s - d * (pick u 2 3 * w) ≡ s % pick u 2 3 + pick u 2 3 * (s / pick u 2 3 - d * w)
counts_behind true s d w x h e = omega (arith, h, ap (λ (k : ℕ). k * w) e, mul_left_comm d 2 w)
counts_behind false s d w x h e = omega (arith, h, ap (λ (k : ℕ). k * w) e, mul_left_comm d 3 w)

-- a setting without its lowest digit m, to such a base
lowest_dropped : (u : Bool) (s m : ℕ) → s % pick u 2 3 ≡ m → s - m * 1 ≡ pick u 2 3 * (s / pick u 2 3)
lowest_dropped true s m e = omega (arith, e)
lowest_dropped false s m e = omega (arith, e)

digit-three : (u : Bool) (s m : ℕ) → s % pick u 2 3 ≡ suc (suc (suc m)) → ⊥
digit-three true s m e = omega (arith, e)
digit-three false s m e = omega (arith, e)

-- the cause a in front of those of l
module _ (q : ℕ → Bool) (tw a : ℕ) (l : List ℕ) (s : ℕ) (small : a < 64)
    (none : digit_in tw l (s / choice_of tw a) a ≡ 0) where
  abbrev base : ℕ
  base = choice_of tw a

  abbrev others : ℕ
  others = s / base

  abbrev rested : ℕ → Bool
  rested = on_rest q base s

  -- the lowest digit is d, and the setting without it passes
  abbrev lowest_is : ℕ → Bool
  lowest_is d = eqb (s % base) d && q (s - d * 1)

  module _ (d : ℕ) (z : eqb 0 d ≡ false) where
    behind : (b : ℕ) → eqb (digit_in tw l others b) d ≡ true
        → s - d * (base * weight_in tw l b) ≡ s % base + base * (others - d * weight_in tw l b)
    behind b e =
        counts_behind (has tw a) s d (weight_in tw l b) (digit_in tw l others b) (digit-counts tw l others b)
        (eqb-true (digit_in tw l others b) d e)

    drops_cons : (b : ℕ) → drops_at q tw (a ∷ l) s d b ≡ (drops_at rested tw l others d b || (lowest_is d && eqb b a))
    unfolding choices_for digits digit_of weight_in
    drops_cons b = go (eqb b a) refl
      where
        rest : Bool
        rest = drops_at rested tw l others d b

        go : (t : Bool) → eqb b a ≡ t
            → (eqb (pick t (s % base) (digit_in tw l others b)) d && q (s - d * pick t 1 (base * weight_in tw l b)))
            ≡ (rest || (lowest_is d && t))
        go true e =
            sym (ap (λ (x : ℕ). (eqb x d && rested (others - d * weight_in tw l b)) || (lowest_is d && true))
            (ap (digit_in tw l others) (eqb-true b a e) ∙ none)
            ∙ ap (λ (t : Bool). (t && rested (others - d * weight_in tw l b)) || (lowest_is d && true)) z
            ∙ and-true (lowest_is d))
        go false e =
            and_ext (eqb (digit_in tw l others b) d) (λ h. ap q (behind b h))
            ∙ sym (ap (λ (t : Bool). rest || t) (and-false (lowest_is d)) ∙ or-false rest)

    some_cons : some_drop q tw (a ∷ l) s d ≡ (some_drop rested tw l others d || lowest_is d)
    some_cons =
        any_ext 64 _ _ (λ b h. drops_cons b)
        ∙ any-or 64 (drops_at rested tw l others d) (λ b. lowest_is d && eqb b a)
        ∙ ap (λ (t : Bool). some_drop rested tw l others d || t) (any_at 64 (λ b. lowest_is d) a small)

  lowest_either : (lowest_is 1 || lowest_is 2) ≡ (not (eqb (s % base) 0) && q (base * others))
  lowest_either = go (s % base) refl
    where
      go : (m : ℕ) → s % base ≡ m
          → ((eqb m 1 && q (s - 1 * 1)) || (eqb m 2 && q (s - 2 * 1))) ≡ (not (eqb m 0) && q (base * others))
      go zero e = refl
      go (suc zero) e = or-false (q (s - 1 * 1)) ∙ ap q (lowest_dropped (has tw a) s 1 e)
      go (suc (suc zero)) e = ap q (lowest_dropped (has tw a) s 2 e)
      go (suc (suc (suc m))) e = absurd (digit-three (has tw a) s m e)

  either_cons : (some_drop rested tw l others 1 || some_drop rested tw l others 2)
      ≡ some_dropped rested (choices_for tw l) others
      → (some_drop q tw (a ∷ l) s 1 || some_drop q tw (a ∷ l) s 2) ≡ some_dropped q (choices_for tw (a ∷ l)) s
  unfolding some_dropped choices_for
  either_cons ih =
      ap₂ ◌||◌ (some_cons 1 refl) (some_cons 2 refl)
      ∙ turn (some_drop rested tw l others 1) (lowest_is 1) (some_drop rested tw l others 2) (lowest_is 2)
      ∙ ap₂ ◌||◌ lowest_either ih

-- of the causes of w among the n atoms from a on
either-from : (tw w n a s : ℕ) (q : ℕ → Bool) → a + n ≤ 64
    → let l = atoms_from w a n in (some_drop q tw l s 1 || some_drop q tw l s 2) ≡ some_dropped q (choices_for tw l) s
unfolding atoms_from choices_for digits digit_of some_dropped
either-from tw w zero a s q h = ap₂ ◌||◌ (all-false 64 _ (λ b l. refl)) (all-false 64 _ (λ b l. refl))
either-from tw w (suc n) a s q h = go (has w a) (λ t r. either-from tw w n (suc a) t r (omega arith))
  where
    l : List ℕ
    l = atoms_from w (suc a) n

    c : ℕ
    c = choice_of tw a

    go : (t : Bool)
        → ((t : ℕ) (r : ℕ → Bool)
        → (some_drop r tw l t 1 || some_drop r tw l t 2) ≡ some_dropped r (choices_for tw l) t)
        → let k = cons_if t a l in (some_drop q tw k s 1 || some_drop q tw k s 2) ≡ some_dropped q (choices_for tw k) s
    go true ih =
        either_cons q tw a l s (omega arith) (digit-none tw w a n (suc a) (s / c) (λ k i e f. omega arith))
        (ih (s / c) (on_rest q c s))
    go false ih = ih s q

-- ---- by a table of the weights
-- y has the atoms with the digit d in setting s of the causes w
module _ (w : Causes) (s d y : ℕ) (table : List ℕ) (g : Weights w table)
    (of : (a : ℕ) → a < 64 → has y a ≡ true → has w.all a ≡ true)
    (bits : (a : ℕ) → a < 64 → has y a ≡ eqb (digit_in w.twofold (atoms_in w.all) s a) d) where
  weight_is : (a : ℕ) → BitOf y a → get_or table a 0 ≡ weight_in w.twofold (atoms_in w.all) a
  weight_is a b = g a (record { small = b.small; there = of a b.small b.there })

  weight-le : (a : ℕ) → BitOf y a → d * get_or table a 0 ≤ s
  weight-le a b =
      let e = eqb-true (digit_in w.twofold (atoms_in w.all) s a) d (sym (bits a b.small) ∙ b.there) in
      omega (arith, digit-counts w.twofold (atoms_in w.all) s a, ap₂ ◌*◌ e (sym (weight_is a b)))

  weight-any : (q : ℕ → Bool) → any 64 (λ a. has y a && q (s - d * get_or table a 0))
      ≡ some_drop q w.twofold (atoms_in w.all) s d
  weight-any q =
      any_ext 64 _ _
      (λ a l. and_ext (has y a)
      (λ h. ap (λ (k : ℕ). q (s - d * k)) (weight_is a (record { small = l; there = h })))
      ∙ ap (λ (t : Bool). t && q (s - d * weight_in w.twofold (atoms_in w.all) a)) (bits a l))

-- ---- of what a setting adds
module _ (w : Causes) (s : ℕ) (x : Additions) (f : Decodes w s x) where
  facts_of : (a : ℕ) → a < 64 → has x.facts a ≡ true → has w.all a ≡ true
  facts_of a l e = additions_facts_of w s a l (ap (λ (y : Additions). has y.facts a) (sym f.adds) ∙ e)

  assumptions_of : (a : ℕ) → a < 64 → has x.assumptions a ≡ true → has w.all a ≡ true
  assumptions_of a l e =
      additions_assumptions_of w s a l (ap (λ (y : Additions). has y.assumptions a) (sym f.adds) ∙ e)

  facts_bits : (a : ℕ) → a < 64 → has x.facts a ≡ eqb (digit_in w.twofold (atoms_in w.all) s a) 1
  unfolding additions_of
  facts_bits a l =
      ap (λ (y : Additions). has y.facts a) f.adds
      ∙ has_word 64 (λ b. eqb (digit_in w.twofold (atoms_in w.all) s b) 1) a l

  assumptions_bits : (a : ℕ) → a < 64 → has x.assumptions a ≡ eqb (digit_in w.twofold (atoms_in w.all) s a) 2
  unfolding additions_of
  assumptions_bits a l =
      ap (λ (y : Additions). has y.assumptions a) f.adds
      ∙ has_word 64 (λ b. eqb (digit_in w.twofold (atoms_in w.all) s b) 2) a l

  module _ (table : List ℕ) (g : Weights w table) where
    pub facts_le : (a : ℕ) → BitOf x.facts a → 1 * get_or table a 0 ≤ s
    facts_le = weight-le w s 1 x.facts table g facts_of facts_bits

    pub assumptions_le : (a : ℕ) → BitOf x.assumptions a → 2 * get_or table a 0 ≤ s
    assumptions_le = weight-le w s 2 x.assumptions table g assumptions_of assumptions_bits

    module _ (q : ℕ → Bool) where
      -- some cause that gets a fact, or an assumption, has a digit whose dropping passes the test q
      abbrev fact_dropped : Bool
      fact_dropped = any 64 (λ a. has x.facts a && q (s - 1 * get_or table a 0))

      abbrev assumption_dropped : Bool
      assumption_dropped = any 64 (λ a. has x.assumptions a && q (s - 2 * get_or table a 0))

      pub either_dropped : (fact_dropped || assumption_dropped) ≡ some_dropped q (choices_of w) s
      either_dropped =
          ap₂ ◌||◌ (weight-any w s 1 x.facts table g facts_of facts_bits q)
          (weight-any w s 2 x.assumptions table g assumptions_of assumptions_bits q)
          ∙ either-from w.twofold w.all 64 0 s q (omega arith)
