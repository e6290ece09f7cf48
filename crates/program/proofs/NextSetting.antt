-- The next setting: what a setting adds, by the digit of its lowest cause, and the walk over the causes that carries a
-- setting to the next. Assumes nothing.
use mathlib.Core.Path.{◌≡◌, refl, sym, ap, ap₂, ◌∙◌}
use mathlib.Core.Bool.{Bool, true, false, not, ◌&&◌, ◌||◌, and-true, and-false, or-false, or_comm}
use Prim.Native.Nat.{ℕ, ◌+◌, ◌/◌, ◌%◌, ◌^◌, ◌<◌}
use native.Mathlib.Omega.{arith}
use lib.Bits.{bit_or}
use lib.Dec.{eqb}
use borrow.Author.Tests.{eqb-true, eqb-false, eq-eqb}
use Rattle.words.specs.Choice.{pick}
use Rattle.words.specs.Bits.{has, word}
use Rattle.words.specs.OneBit.{with_bit, without_bit, LowestOf}
use Rattle.words.proofs.Bits.{has-zero, has_ext}
use Rattle.words.proofs.Words.{word_lt, has_word, is_word, has_without_one, without_one_lt}
use Rattle.words.proofs.BitWalks.{has_with, with_lt}
use Rattle.program.specs.declared.cause.Additions.{Additions}
use Rattle.program.specs.Cause.{causes_by}
use Rattle.program.specs.Setting.{choice_of, digits, choices_for, digit_of, additions_of}
use Rattle.program.specs.Digit.{with_digit}
use Rattle.program.proofs.Atoms.{atoms-zero}
use Rattle.program.proofs.Settings.{digit_from, digit_lowest, digit-passed, with_facts, with_assumptions}
use Rattle.program.proofs.Settings.{has_digit, gathered_start, gathered_next}

-- ---- a bit added and taken out again
taken_back : (y t q : Bool) → (q ≡ true → y ≡ false) → ((y || t && q) && not q) ≡ y
taken_back y t true h = and-false (y || t && true) ∙ sym (h refl)
taken_back y t false h = and-true (y || t && false) ∙ ap (λ (u : Bool). y || u) (and-false t) ∙ or-false y

without_with : (t : Bool) (w i : ℕ) → w < 2 ^ 64 → i < 64 → has w i ≡ false → without_bit (with_bit t w i) i ≡ w
without_with t w i h l e =
    has_ext 64 (without_bit (with_bit t w i) i) w (without_one_lt 64 (with_bit t w i) i (with_lt t 64 w i h l)) h
    (λ j m. has_without_one 64 (with_bit t w i) i j l m
    ∙ ap (λ (y : Bool). y && not (eqb j i)) (has_with t w i j)
    ∙ taken_back (has w j) t (eqb j i) (λ q. ap (has w) (eqb-true j i q) ∙ e))

-- ---- the atoms with one digit, where a is the lowest cause
-- the atoms with digit d in setting s of the causes w
abbrev digit_word : ℕ → ℕ → ℕ → ℕ → ℕ
digit_word tw w s d = word 64 (has_digit tw w s d)

module _ (tw w a : ℕ) (h : LowestOf w a) (d : ℕ) (z : eqb 0 d ≡ false) where
  word_lowest : (s : ℕ) → digit_word tw w s d
      ≡ with_bit (eqb (s % choice_of tw a) d) (digit_word tw (without_bit w a) (s / choice_of tw a) d) a
  word_lowest s =
      sym (is_word 64 (with_bit t y a) (has_digit tw w s d) (with_lt t 64 y a (word_lt 64 p) h.bit.small)
      (λ b l. has_with t y a b ∙ ap (λ (u : Bool). u || t && eqb b a) (has_word 64 p b l)
      ∙ or_comm (p b) (t && eqb b a)
      ∙ ap (λ (u : Bool). u || p b) (sym (has_with t 0 a b ∙ ap (λ (u : Bool). u || t && eqb b a) (has-zero b)))
      ∙ (gathered_next tw w s d 0 s w a z (gathered_start tw w s d) h).bits b))
    where
      t : Bool
      t = eqb (s % choice_of tw a) d

      p : ℕ → Bool
      p = has_digit tw (without_bit w a) (s / choice_of tw a) d

      y : ℕ
      y = word 64 p

  word-here : (s : ℕ) → has (digit_word tw w s d) a ≡ eqb (s % choice_of tw a) d
  word-here s =
      has_word 64 (has_digit tw w s d) a h.bit.small
      ∙ ap (λ (n : ℕ). eqb n d) (digit_lowest tw w a s a h
      ∙ ap (λ (t : Bool). pick t (s % choice_of tw a) (digit_from tw (without_bit w a) 0 64 (s / choice_of tw a) a))
      (eq-eqb a a refl))

  word-later : (t : ℕ) → has (digit_word tw (without_bit w a) t d) a ≡ false
  word-later t =
      has_word 64 (has_digit tw (without_bit w a) t d) a h.bit.small
      ∙ ap (λ (n : ℕ). eqb n d) (digit-passed tw w a t h) ∙ z

  word_dropped : (s : ℕ) → without_bit (digit_word tw w s d) a ≡ digit_word tw (without_bit w a) (s / choice_of tw a) d
  word_dropped s =
      ap (λ (x : ℕ). without_bit x a) (word_lowest s)
      ∙ without_with (eqb (s % choice_of tw a) d) (digit_word tw (without_bit w a) (s / choice_of tw a) d) a
      (word_lt 64 (has_digit tw (without_bit w a) (s / choice_of tw a) d)) h.bit.small (word-later (s / choice_of tw a))

  word_kept : (s : ℕ) → eqb (s % choice_of tw a) d ≡ false
      → digit_word tw w s d ≡ digit_word tw (without_bit w a) (s / choice_of tw a) d
  word_kept s e =
      word_lowest s ∙ ap (λ (t : Bool). with_bit t (digit_word tw (without_bit w a) (s / choice_of tw a) d) a) e

-- ---- what a setting adds, where a is the lowest cause
additions_lowest : (tw w a s : ℕ) → LowestOf w a
    → let c = choice_of tw a in
    additions_of (causes_by tw w) s ≡ with_digit (additions_of (causes_by tw (without_bit w a)) (s / c)) a (s % c)
unfolding additions_of
additions_lowest tw w a s h =
    let x = additions_of (causes_by tw (without_bit w a)) (s / choice_of tw a) in
    let p = word_lowest tw w a h 1 refl s ∙ sym (with_facts x a (s % choice_of tw a)) in
    let q = word_lowest tw w a h 2 refl s ∙ sym (with_assumptions x a (s % choice_of tw a)) in
    λ i. record { facts = p i; assumptions = q i }

module _ (tw w a s : ℕ) (h : LowestOf w a) where
  -- what the setting of the other causes adds
  abbrev rest : Additions
  rest = additions_of (causes_by tw (without_bit w a)) (s / choice_of tw a)

  facts_lowest : has (additions_of (causes_by tw w) s).facts a ≡ eqb (s % choice_of tw a) 1
  unfolding additions_of
  facts_lowest = word-here tw w a h 1 refl s

  assumptions_lowest : has (additions_of (causes_by tw w) s).assumptions a ≡ eqb (s % choice_of tw a) 2
  unfolding additions_of
  assumptions_lowest = word-here tw w a h 2 refl s

  -- without the lowest cause, whatever its digit
  facts_without : without_bit (additions_of (causes_by tw w) s).facts a ≡ rest.facts
  unfolding additions_of
  facts_without = word_dropped tw w a h 1 refl s

  assumptions_without : without_bit (additions_of (causes_by tw w) s).assumptions a ≡ rest.assumptions
  unfolding additions_of
  assumptions_without = word_dropped tw w a h 2 refl s

  -- where its digit is another
  facts_others : eqb (s % choice_of tw a) 1 ≡ false → (additions_of (causes_by tw w) s).facts ≡ rest.facts
  unfolding additions_of
  facts_others = word_kept tw w a h 1 refl s

  assumptions_others : eqb (s % choice_of tw a) 2 ≡ false
      → (additions_of (causes_by tw w) s).assumptions ≡ rest.assumptions
  unfolding additions_of
  assumptions_others = word_kept tw w a h 2 refl s

-- without causes all settings add the same
additions_none : (tw s t : ℕ) → additions_of (causes_by tw 0) s ≡ additions_of (causes_by tw 0) t
unfolding additions_of choices_for digits digit_of
additions_none tw s t = rw atoms-zero refl

-- the setting after s, with its lowest digit e and its other digits t
additions_next : (tw w a s t e : ℕ) → LowestOf w a → (s + 1) / choice_of tw a ≡ t → (s + 1) % choice_of tw a ≡ e
    → additions_of (causes_by tw w) (s + 1) ≡ with_digit (additions_of (causes_by tw (without_bit w a)) t) a e
additions_next tw w a s t e h p q =
    additions_lowest tw w a (s + 1) h
    ∙ ap₂ (λ (n d : ℕ). with_digit (additions_of (causes_by tw (without_bit w a)) n) a d) p q

-- ---- the walk to the next setting
-- the causes passed have fallen to digit 0: x is a setting of the causes left, and setting s + 1 of w the one after it
pub record Carried (tw w s : ℕ) (x : Additions) (left : ℕ) : Type 0 where
  pub at : ℕ
  pub is_at : x ≡ additions_of (causes_by tw left) at
  pub next-is : additions_of (causes_by tw w) (s + 1) ≡ additions_of (causes_by tw left) (at + 1)

pub carried_start : (tw w s : ℕ) (x : Additions) → x ≡ additions_of (causes_by tw w) s → Carried tw w s x w
carried_start tw w s x e = record { at = s; is_at = e; next-is = refl }

pub carried_end : (tw w s : ℕ) (x : Additions) (left : ℕ) → left ≡ 0 → Carried tw w s x left
    → x ≡ additions_of (causes_by tw w) (s + 1)
carried_end tw w s x left z c =
    let g : Carried tw w s x 0 = rw z at c in
    g.is_at ∙ additions_none tw g.at (g.at + 1) ∙ sym g.next-is

-- the digits of the setting after s: the lowest falls to 0 and the others go on, or the lowest rises by one
carry : (t : Bool) (s : ℕ) → s % pick t 2 3 + 1 ≡ pick t 2 3
    → ((s + 1) / pick t 2 3 ≡ s / pick t 2 3 + 1) × ((s + 1) % pick t 2 3 ≡ 0)
carry true s e = (omega arith, omega arith)
carry false s e = (omega arith, omega arith)

rise : (t : Bool) (s : ℕ) → s % pick t 2 3 + 1 < pick t 2 3
    → ((s + 1) / pick t 2 3 ≡ s / pick t 2 3) × ((s + 1) % pick t 2 3 ≡ s % pick t 2 3 + 1)
rise true s e = (omega arith, omega arith)
rise false s e = (omega arith, omega arith)

module _ (tw w s : ℕ) (x : Additions) (left a : ℕ) (c : Carried tw w s x left) (h : LowestOf left a) where
  abbrev base : ℕ
  base = choice_of tw a

  fact-digit : (t : Bool) → has x.facts a ≡ t → eqb (c.at % base) 1 ≡ t
  fact-digit t e = sym (ap (λ (y : Additions). has y.facts a) c.is_at ∙ facts_lowest tw left a c.at h) ∙ e

  assumption-digit : (t : Bool) → has x.assumptions a ≡ t → eqb (c.at % base) 2 ≡ t
  assumption-digit t e =
      sym (ap (λ (y : Additions). has y.assumptions a) c.is_at ∙ assumptions_lowest tw left a c.at h) ∙ e

  -- the highest digit falls to 0, and the next cause's digit rises
  carried_down : {f u : ℕ} → f ≡ (rest tw left a c.at h).facts → u ≡ (rest tw left a c.at h).assumptions
      → c.at % base + 1 ≡ base → Carried tw w s (record { facts = f; assumptions = u }) (without_bit left a)
  carried_down p r e =
      let k = carry (has tw a) c.at e in
      record {
        at = c.at / base;
        is_at = λ i. record { facts = p i; assumptions = r i };
        next-is = c.next-is ∙ additions_next tw left a c.at (c.at / base + 1) 0 h k.0 k.1;
      }

  -- digit 1, of two choices
  pub carried_one : has tw a ≡ true → has x.facts a ≡ true
      → Carried tw w s (record { facts = without_bit x.facts a; assumptions = x.assumptions }) (without_bit left a)
  carried_one b e =
      let q = eqb-true (c.at % base) 1 (fact-digit true e) in
      let m : base ≡ 2 = ap (λ (t : Bool). pick t 2 3) b in
      carried_down (ap (λ (y : Additions). without_bit y.facts a) c.is_at ∙ facts_without tw left a c.at h)
      (ap (λ (y : Additions). y.assumptions) c.is_at
      ∙ assumptions_others tw left a c.at h (ap (λ (n : ℕ). eqb n 2) q)) (omega (arith, q, m))

  -- digit 2
  pub carried_two : has x.assumptions a ≡ true
      → Carried tw w s (record { facts = x.facts; assumptions = without_bit x.assumptions a }) (without_bit left a)
  carried_two e =
      let q = eqb-true (c.at % base) 2 (assumption-digit true e) in
      carried_down (ap (λ (y : Additions). y.facts) c.is_at
      ∙ facts_others tw left a c.at h (ap (λ (n : ℕ). eqb n 1) q))
      (ap (λ (y : Additions). without_bit y.assumptions a) c.is_at ∙ assumptions_without tw left a c.at h)
      (highest (has tw a) q)
    where
      highest : (t : Bool) → c.at % pick t 2 3 ≡ 2 → c.at % pick t 2 3 + 1 ≡ pick t 2 3
      highest true q = absurd (omega (arith, q))
      highest false q = ap (λ (n : ℕ). n + 1) q

  -- digit 1, of three choices, rises to 2
  pub carried_fact : has tw a ≡ false → has x.facts a ≡ true
      → record { facts = without_bit x.facts a; assumptions = bit_or x.assumptions (2 ^ a) }
      ≡ additions_of (causes_by tw w) (s + 1)
  carried_fact b e =
      let q = eqb-true (c.at % base) 1 (fact-digit true e) in
      let m : base ≡ 3 = ap (λ (t : Bool). pick t 2 3) b in
      let k = rise (has tw a) c.at (omega (arith, q, m)) in
      let p = ap (λ (y : Additions). without_bit y.facts a) c.is_at ∙ facts_without tw left a c.at h in
      let o = assumptions_others tw left a c.at h (ap (λ (n : ℕ). eqb n 2) q) in
      let r = ap (λ (y : Additions). y.assumptions) c.is_at ∙ o in
      (λ i. record { facts = p i; assumptions = bit_or (r i) (2 ^ a) })
      ∙ sym (c.next-is ∙ additions_next tw left a c.at (c.at / base) 2 h k.0 (k.1 ∙ ap (λ (n : ℕ). n + 1) q))

  -- digit 0 rises to 1
  pub carried_nothing : has x.facts a ≡ false → has x.assumptions a ≡ false
      → record { facts = bit_or x.facts (2 ^ a); assumptions = x.assumptions } ≡ additions_of (causes_by tw w) (s + 1)
  carried_nothing e f =
      let m = fact-digit false e in
      let n = assumption-digit false f in
      let p = ap (λ (y : Additions). y.facts) c.is_at ∙ facts_others tw left a c.at h m in
      let r = ap (λ (y : Additions). y.assumptions) c.is_at ∙ assumptions_others tw left a c.at h n in
      let q : c.at % base ≡ 0 = low (has tw a) (eqb-false (c.at % base) 1 m) (eqb-false (c.at % base) 2 n) in
      let k = rise (has tw a) c.at (room (has tw a) q) in
      (λ i. record { facts = bit_or (p i) (2 ^ a); assumptions = r i })
      ∙ sym (c.next-is ∙ additions_next tw left a c.at (c.at / base) 1 h k.0 (k.1 ∙ ap (λ (n : ℕ). n + 1) q))
    where
      low : (t : Bool) → (c.at % pick t 2 3 ≡ 1 → ⊥) → (c.at % pick t 2 3 ≡ 2 → ⊥) → c.at % pick t 2 3 ≡ 0
      low true u v = omega (arith, u, v)
      low false u v = omega (arith, u, v)

      room : (t : Bool) → c.at % pick t 2 3 ≡ 0 → c.at % pick t 2 3 + 1 < pick t 2 3
      room true q = omega (arith, q)
      room false q = omega (arith, q)
