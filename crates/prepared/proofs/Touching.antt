-- The heads that the atoms of a word touch, and the walk over the word's bits that gathers them: what is gathered and
-- what the atoms left touch is always all. Assumes nothing.
use mathlib.Core.Path.{◌≡◌, refl, sym, ap, ◌∙◌}
use mathlib.Core.Bool.{Bool, true, false, ◌&&◌, ◌||◌, or-false}
use mathlib.Core.List.{List}
use Prim.Native.Nat.{ℕ, ◌^◌, ◌<◌}
use lib.Bits.{bit_or, or_lt}
use lib.Dec.{lit<}
use lib.ListN.{get_or}
use Rattle.words.specs.Bits.{has, word}
use Rattle.words.specs.OneBit.{without_bit, BitOf}
use Rattle.words.specs.Below.{any}
use Rattle.words.proofs.Below.{any_ext, all-false}
use Rattle.words.proofs.Bits.{has-zero, has-or}
use Rattle.words.proofs.Words.{has_word, is_word, word_ext}
use Rattle.words.proofs.BitWalks.{any_without}
use Rattle.prepared.specs.Dependents.{dependents_of, touched_from, Dependents, touched_by}

-- ---- touched heads
module _ (cl : List ℕ) (n : ℕ) where
  -- the atom i is in w and has the dependent a
  abbrev pub touches : ℕ → ℕ → ℕ → Bool
  touches w a i = has w i && has (dependents_of cl n i) a

  pub has_touched : (w a : ℕ) → a < 64 → has (touched_from cl n w) a ≡ any 64 (touches w a)
  unfolding touched_from
  has_touched w a l = has_word 64 (λ b. any 64 (touches w b)) a l

  -- by the table of dependents
  pub touched-from : (t : List ℕ) → Dependents cl n t → (w : ℕ) → word 64 (touched_by t w) ≡ touched_from cl n w
  unfolding touched_by touched_from
  touched-from t d w =
      word_ext 64 (touched_by t w) (λ a. any 64 (touches w a))
      (λ a l. any_ext 64 (λ i. has w i && has (get_or t i 0) a) (touches w a)
      (λ i m. ap (λ (e : ℕ). has w i && has e a) (d i m)))

-- the atom a depends on an atom of w by the table t
pub has_touched_by : (t : List ℕ) (w a : ℕ) → a < 64
    → has (word 64 (touched_by t w)) a ≡ any 64 (λ i. has w i && has (get_or t i 0) a)
unfolding touched_by
has_touched_by t w a l = has_word 64 (touched_by t w) a l

-- ---- touched heads gathered
module _ (t : List ℕ) (fresh : ℕ) where
  pub record Gathered (heads left : ℕ) : Type 0 where
    pub fits : heads < 2 ^ 64
    pub all : (a : ℕ) → (touched_by t left a || has heads a) ≡ touched_by t fresh a

  pub gathered_start : Gathered 0 fresh
  gathered_start = record {
    fits = lit< tt;
    all = λ a. ap (λ (b : Bool). touched_by t fresh a || b) (has-zero a) ∙ or-false (touched_by t fresh a);
  }

  pub gathered_next : (heads left i : ℕ) → Gathered heads left → BitOf left i → get_or t i 0 < 2 ^ 64
      → Gathered (bit_or heads (get_or t i 0)) (without_bit left i)
  unfolding touched_by
  gathered_next heads left i g b l = record {
    fits = or_lt 64 _ _ g.fits l;
    all = λ a. ap (λ (s : Bool). touched_by t (without_bit left i) a || s) (has-or heads (get_or t i 0) a)
        ∙ swap (touched_by t (without_bit left i) a) (has heads a) (has (get_or t i 0) a)
        ∙ ap (λ (s : Bool). s || has heads a) (sym (any_without left i b (λ j. has (get_or t j 0) a)))
        ∙ g.all a;
  }
    where
      swap : (x y z : Bool) → (x || (y || z)) ≡ ((x || z) || y)
      swap true y z = refl
      swap false true true = refl
      swap false true false = refl
      swap false false z = sym (or-false z)

  pub gathered_end : (heads left : ℕ) → Gathered heads left → left ≡ 0 → heads ≡ word 64 (touched_by t fresh)
  unfolding touched_by
  gathered_end heads left g e =
      is_word 64 heads (touched_by t fresh) g.fits
      (λ a l. ap (λ (s : Bool). s || has heads a) (sym (none a)) ∙ g.all a)
    where
      none : (a : ℕ) → touched_by t left a ≡ false
      none a =
          all-false 64 (λ i. has left i && has (get_or t i 0) a)
          (λ i m. ap (λ (s : Bool). s && has (get_or t i 0) a) (ap (λ (w : ℕ). has w i) e ∙ has-zero i))
