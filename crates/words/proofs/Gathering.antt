-- The word of the numbers that pass a test, gathered bit by bit. Assumes nothing.
use mathlib.Core.Path.{◌≡◌, refl, sym, ap, ap₂, subst, ◌∙◌}
use mathlib.Core.Bool.{Bool, false, ◌&&◌, ◌||◌, or-false, and-true, and-false}
use mathlib.Core.Logic.{⊎_elim}
use Prim.Native.Nat.{ℕ, ◌+◌, ◌^◌, ◌≤◌, ◌<◌}
use native.Mathlib.Nat.{le_refl, eq-or-lt_of_le}
use native.Mathlib.Omega.{arith}
use lib.Dec.{lit<}
use borrow.Author.Tests.{eq-eqb, ne_eqb}
use Rattle.words.specs.Bits.{has, word}
use Rattle.words.specs.OneBit.{with_bit}
use Rattle.words.proofs.Bits.{has-zero}
use Rattle.words.proofs.Words.{is_word}
use Rattle.words.proofs.BitWalks.{has_with, with_lt}

-- w has the bits below i that pass the test p, and no other
pub record Gathering (p : ℕ → Bool) (w i : ℕ) : Type 0 where
  pub low : i ≤ 64
  pub fits : w < 2 ^ 64
  pub bits : (a : ℕ) → a < i → has w a ≡ p a
  pub none : (a : ℕ) → i ≤ a → has w a ≡ false

module _ {p : ℕ → Bool} where
  pub gathering_start : Gathering p 0 0
  gathering_start = record {
    low = omega arith;
    fits = lit< tt;
    bits = λ a l. absurd (omega arith);
    none = λ a l. has-zero a;
  }

  module _ {w i : ℕ} (g : Gathering p w i) where
    -- bit i is taken in where the test on says so
    module _ (l : i < 64) (on : Bool) (e : on ≡ p i) where
      here : has (with_bit on w i) i ≡ p i
      here =
          has_with on w i i
          ∙ ap₂ (λ (s u : Bool). s || on && u) (g.none i (le_refl i)) (eq-eqb i i refl)
          ∙ and-true on ∙ e

      other : (a : ℕ) → (a ≡ i → ⊥) → has (with_bit on w i) a ≡ has w a
      other a n =
          has_with on w i a
          ∙ ap (λ (u : Bool). has w a || on && u) (ne_eqb a i n)
          ∙ ap (λ (u : Bool). has w a || u) (and-false on) ∙ or-false (has w a)

      pub gathering_next : (w₁ : ℕ) → w₁ ≡ with_bit on w i → Gathering p w₁ (i + 1)
      gathering_next w₁ q = rw q (record {
        low = omega arith;
        fits = with_lt on 64 w i g.fits l;
        bits = λ a m. ⊎_elim
            (λ (z : a ≡ i). subst (λ (b : ℕ). has (with_bit on w i) b ≡ p b) (sym z) here)
            (λ (z : a < i). other a (omega arith) ∙ g.bits a z)
            (eq-or-lt_of_le (omega arith));
        none = λ a m. other a (omega arith) ∙ g.none a (omega arith);
      })

    pub gathering_end : i ≡ 64 → w ≡ word 64 p
    gathering_end e = is_word 64 w p g.fits (λ a l. g.bits a (omega arith))
