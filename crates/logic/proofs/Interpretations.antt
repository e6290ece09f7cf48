-- Laws of interpretations: the values in one, the one of given values, and where two differ. Assumes nothing.
use mathlib.Core.Path.{◌≡◌, refl, sym, ap, ap₂, ◌∙◌}
use mathlib.Core.Bool.{Bool, true, false, not, ◌&&◌, ◌||◌, or-false, and-true, and-false}
use mathlib.Core.Bool.{true≢false, not-not}
use mathlib.Core.Logic.{⊎_elim}
use Prim.Native.Nat.{ℕ, ◌^◌, ◌≤◌, ◌<◌}
use lib.Dec.{eqb, lit<}
use lib.Bits.{bit_or, bit_xor, and_lt, or_lt, xor_lt}
use borrow.Author.Tests.{eqb-true, eq-eqb}
use Rattle.words.specs.Choice.{pick}
use Rattle.words.specs.Below.{any}
use Rattle.words.specs.Bits.{has, word}
use Rattle.words.specs.OneBit.{with_bit, without_bit}
use Rattle.words.proofs.Tests.{lt-or-le, and_true_l, and_true_r, or_false_l, or_false_r}
use Rattle.words.proofs.Below.{any_ext}
use Rattle.words.proofs.Bits.{has-zero, has_above, has-and, has-or, has_xor, differs, has_ext}
use Rattle.words.proofs.Words.{word_lt, has_word, is_word, word_ext, zero-any}
use Rattle.words.proofs.Words.{has_without_one, without_one_lt}
use Rattle.words.proofs.BitWalks.{has_with, with_lt}
use Rattle.logic.specs.declared.value.Value.{Value}
use Rattle.logic.specs.declared.value.Value.TheVariants.{Unknown}
use Rattle.logic.specs.declared.interpretation.Interpretation.{Interpretation}
use Rattle.logic.specs.Value.{is_true, is_false, is_decided}
use Rattle.logic.specs.Interpretation.{nothing, among, value_at, of_values, Disjoint, same_in}
use Rattle.logic.specs.Assigned.{assigned}
use Rattle.logic.specs.Order.{Contained}
use Rattle.logic.proofs.Values.{by_tests, not-both, true_among, false_among, decided-among}
use Rattle.logic.proofs.Order.{leq_refl, leq_unknown}

-- an interpretation of two words of 64 bits in which no atom is both true and false
pub record Good (i : Interpretation) : Type 0 where
  pub trues_fit : i.trues < 2 ^ 64
  pub falses_fit : i.falses < 2 ^ 64
  pub disjoint : Disjoint i

-- ---- equality
pub interpretation_eq : {i j : Interpretation} → i.trues ≡ j.trues → i.falses ≡ j.falses → i ≡ j
interpretation_eq p q = λ k. record { trues = p k; falses = q k }

pub same_in-eq : (i j : Interpretation) → same_in i j ≡ true → i ≡ j
same_in-eq i j e =
    interpretation_eq
    (eqb-true i.trues j.trues (and_true_l (eqb i.trues j.trues) (eqb i.falses j.falses) e))
    (eqb-true i.falses j.falses (and_true_r (eqb i.trues j.trues) (eqb i.falses j.falses) e))

pub same_in_refl : (i j : Interpretation) → i ≡ j → same_in i j ≡ true
same_in_refl i j e =
    ap₂ ◌&&◌
    (eq-eqb i.trues j.trues (ap (λ (x : Interpretation). x.trues) e))
    (eq-eqb i.falses j.falses (ap (λ (x : Interpretation). x.falses) e))

-- ---- the value of an atom
pub nothing-at : (a : ℕ) → value_at nothing a ≡ Unknown
nothing-at a = ap₂ among (has-zero a) (has-zero a)

pub apart-at : (i : Interpretation) → Disjoint i → (a : ℕ) → (has i.trues a && has i.falses a) ≡ false
apart-at i d a = sym (has-and i.trues i.falses a) ∙ ap (λ (w : ℕ). has w a) d ∙ has-zero a

pub true_at : (i : Interpretation) (a : ℕ) → is_true (value_at i a) ≡ has i.trues a
true_at i a = true_among (has i.trues a) (has i.falses a)

pub false_at : (i : Interpretation) → Disjoint i → (a : ℕ) → is_false (value_at i a) ≡ has i.falses a
false_at i d a = false_among (has i.trues a) (has i.falses a) (apart-at i d a)

-- ---- the interpretation of given values
pub values_at : (v : ℕ → Value) (a : ℕ) → a < 64 → value_at (of_values v) a ≡ v a
values_at v a l =
    ap₂ among (has_word 64 (λ b. is_true (v b)) a l) (has_word 64 (λ b. is_false (v b)) a l) ∙ sym (by_tests (v a))

pub values_above : (v : ℕ → Value) (a : ℕ) → 64 ≤ a → value_at (of_values v) a ≡ Unknown
values_above v a l =
    ap₂ among
    (has_above 64 (word 64 (λ b. is_true (v b))) a (word_lt 64 (λ b. is_true (v b))) l)
    (has_above 64 (word 64 (λ b. is_false (v b))) a (word_lt 64 (λ b. is_false (v b))) l)

pub values_contained : (v : ℕ → Value) → Contained (value_at (of_values v)) v
values_contained v a =
    ⊎_elim
    (λ (l : a < 64). rw (values_at v a l) (leq_refl (v a)))
    (λ (l : 64 ≤ a). rw (values_above v a l) (leq_unknown (v a)))
    (lt-or-le a 64)

pub values_ext : (v w : ℕ → Value) → ((a : ℕ) → a < 64 → v a ≡ w a) → of_values v ≡ of_values w
values_ext v w e =
    interpretation_eq
    (word_ext 64 (λ a. is_true (v a)) (λ a. is_true (w a)) (λ a l. ap is_true (e a l)))
    (word_ext 64 (λ a. is_false (v a)) (λ a. is_false (w a)) (λ a l. ap is_false (e a l)))

pub of_values-at : (i : Interpretation) → Good i → of_values (value_at i) ≡ i
of_values-at i g =
    interpretation_eq
    (sym (is_word 64 i.trues (λ a. is_true (value_at i a)) g.trues_fit (λ a l. sym (true_at i a))))
    (sym (is_word 64 i.falses (λ a. is_false (value_at i a)) g.falses_fit
    (λ a l. sym (false_at i g.disjoint a))))

pub values_good : (v : ℕ → Value) → Good (of_values v)
values_good v = record {
  trues_fit = word_lt 64 (λ a. is_true (v a));
  falses_fit = word_lt 64 (λ a. is_false (v a));
  disjoint =
      has_ext 64 _ 0 (and_lt 64 _ _ (word_lt 64 (λ a. is_true (v a))) (word_lt 64 (λ a. is_false (v a)))) (lit< tt)
      (λ a l. has-and (word 64 (λ b. is_true (v b))) (word 64 (λ b. is_false (v b))) a
      ∙ ap₂ ◌&&◌ (has_word 64 (λ b. is_true (v b)) a l) (has_word 64 (λ b. is_false (v b)) a l)
      ∙ not-both (v a) ∙ sym (has-zero a));
}

pub nothing_good : Good nothing
nothing_good = record { trues_fit = lit< tt; falses_fit = lit< tt; disjoint = refl }

-- ---- one atom assigned
-- an atom that is assigned the value it has
pub assigned-kept : (v : ℕ → Value) (a : ℕ) (x : Value) → x ≡ v a → (b : ℕ) → assigned v a x b ≡ v b
assigned-kept v a x e b = go (eqb b a) refl
  where
    go : (t : Bool) → eqb b a ≡ t → pick t x (v b) ≡ v b
    go true p = e ∙ ap v (sym (eqb-true b a p))
    go false p = refl

-- a word of the atoms whose value in v passes the test q, and the word of those that pass with x at atom a
module _ (q : Value → Bool) (v : ℕ → Value) (w : ℕ) (a : ℕ) (x : Value)
    (fits : w < 2 ^ 64) (l : a < 64) (bits : (b : ℕ) → has w b ≡ q (v b)) where
  picked : (t : Bool) (y : Value) → ((q y && not t) || (q x && t)) ≡ q (pick t x y)
  picked true y = ap₂ ◌||◌ (and-false (q y)) (and-true (q x))
  picked false y = ap₂ ◌||◌ (and-true (q y)) (and-false (q x)) ∙ or-false (q y)

  assigned_word : with_bit (q x) (without_bit w a) a ≡ word 64 (λ b. q (assigned v a x b))
  assigned_word =
      is_word 64 _ (λ b. q (assigned v a x b)) (with_lt (q x) 64 _ a (without_one_lt 64 w a fits) l)
      (λ b m. has_with (q x) (without_bit w a) a b
      ∙ ap (λ (t : Bool). t || q x && eqb b a)
      (has_without_one 64 w a b l m ∙ ap (λ (t : Bool). t && not (eqb b a)) (bits b))
      ∙ picked (eqb b a) (v b))

-- i with the atom a assigned the value x, word by word
pub assigned_words : (i : Interpretation) (a : ℕ) (x : Value) {t f : ℕ} → Good i → a < 64
    → t ≡ with_bit (is_true x) (without_bit i.trues a) a → f ≡ with_bit (is_false x) (without_bit i.falses a) a
    → record { trues = t; falses = f } ≡ of_values (assigned (value_at i) a x)
assigned_words i a x g l p q =
    interpretation_eq
    (p ∙ assigned_word is_true (value_at i) i.trues a x g.trues_fit l (λ b. sym (true_at i b)))
    (q ∙ assigned_word is_false (value_at i) i.falses a x g.falses_fit l (λ b. sym (false_at i g.disjoint b)))

-- ---- the decided atoms
pub decided-at : (i : Interpretation) (a : ℕ) → has (bit_or i.trues i.falses) a ≡ is_decided (value_at i a)
decided-at i a = has-or i.trues i.falses a ∙ sym (decided-among (has i.trues a) (has i.falses a))

-- ---- the atoms whose values differ
abbrev pub changed : Interpretation → Interpretation → ℕ
changed i j = bit_or (bit_xor i.trues j.trues) (bit_xor i.falses j.falses)

module _ (i j : Interpretation) where
  pub has-changed : (a : ℕ) → has (changed i j) a
      ≡ (differs (has i.trues a) (has j.trues a) || differs (has i.falses a) (has j.falses a))
  has-changed a =
      has-or (bit_xor i.trues j.trues) (bit_xor i.falses j.falses) a
      ∙ ap₂ ◌||◌ (has_xor i.trues j.trues a) (has_xor i.falses j.falses a)

  same_bits : (a b c d : Bool) → (differs a b || differs c d) ≡ false → among a c ≡ among b d
  same_bits a b c d e =
      ap₂ among {x = a} {y = b} {u = c} {v = d}
      (same a b (or_false_l (differs a b) (differs c d) e)) (same c d (or_false_r (differs a b) (differs c d) e))
    where
      same : (s t : Bool) → differs s t ≡ false → s ≡ t
      same true true h = refl
      same true false h = absurd (true≢false h)
      same false t h = sym h

  pub unchanged-at : (a : ℕ) → has (changed i j) a ≡ false → value_at i a ≡ value_at j a
  unchanged-at a e =
      same_bits (has i.trues a) (has j.trues a) (has i.falses a) (has j.falses a) (sym (has-changed a) ∙ e)

  module _ (g : Good i) (h : Good j) where
    changed-lt : changed i j < 2 ^ 64
    changed-lt =
        or_lt 64 _ _ (xor_lt 64 _ _ g.trues_fit h.trues_fit) (xor_lt 64 _ _ g.falses_fit h.falses_fit)

    changed-none : changed i j ≡ 0 → i ≡ j
    changed-none e =
        sym (of_values-at i g)
        ∙ values_ext (value_at i) (value_at j) (λ a l. unchanged-at a (ap (λ (w : ℕ). has w a) e ∙ has-zero a))
        ∙ of_values-at j h

changed_self : (i : Interpretation) → Good i → changed i i ≡ 0
changed_self i g =
    has_ext 64 _ 0 (changed-lt i i g g) (lit< tt)
    (λ a l. has-changed i i a ∙ ap₂ ◌||◌ (none (has i.trues a)) (none (has i.falses a)) ∙ sym (has-zero a))
  where
    none : (t : Bool) → differs t t ≡ false
    none true = refl
    none false = refl

-- two interpretations are the same exactly where no atom's value differs
module _ (i j : Interpretation) (g : Good i) (h : Good j) where
  same-changed : same_in j i ≡ eqb (changed i j) 0
  same-changed = go (same_in j i) (eqb (changed i j) 0) refl refl
    where
      go : (b c : Bool) → same_in j i ≡ b → eqb (changed i j) 0 ≡ c → b ≡ c
      go true c p q =
          let e = ap (λ (k : Interpretation). changed i k) (same_in-eq j i p) ∙ changed_self i g in
          sym (eq-eqb (changed i j) 0 e) ∙ q
      go false true p q = sym p ∙ same_in_refl j i (sym (changed-none i j g h (eqb-true (changed i j) 0 q)))
      go false false p q = refl

  -- moved a says whether the value of a differs
  pub some-changed : (moved : ℕ → Bool) → ((a : ℕ) → a < 64 → has (changed i j) a ≡ moved a)
      → any 64 moved ≡ not (same_in j i)
  some-changed moved e =
      any_ext 64 moved (has (changed i j)) (λ a l. sym (e a l))
      ∙ sym (not-not (any 64 (has (changed i j))))
      ∙ ap not (sym (zero-any 64 (changed i j) (changed-lt i j g h)) ∙ sym same-changed)
