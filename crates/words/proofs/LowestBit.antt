-- A word and the number one less: the bits they share are those of the word without its lowest. Assumes nothing.
use mathlib.Core.Path.{◌≡◌, refl, sym, ap, ap₂, ◌∙◌}
use mathlib.Core.Bool.{Bool, true, false, not, ◌&&◌, and-true}
use Prim.Native.Nat.{ℕ, zero, suc, ◌-◌, ◌/◌, ◌%◌, ◌^◌, ◌<◌}
use native.Mathlib.Nat.{mod-lt, zero-lt-suc, lt_of_le_of_lt}
use native.Mathlib.Omega.{arith}
use lib.Bits.{bit_and, and_le_l}
use lib.Dec.{eqb, eqb-suc-zero, eqb-suc-suc}
use borrow.Author.Tests.{eqb-true, eqb-false, ne_eqb}
use Rattle.words.specs.Bits.{has}
use Rattle.words.specs.OneBit.{without_bit, LowestOf}
use Rattle.words.proofs.Bits.{has-low, has-half, has-and, has_ext}
use Rattle.words.proofs.Words.{has_without_one, without_one_lt}

and_same : (b : Bool) → (b && b) ≡ b
and_same true = refl
and_same false = refl

-- bit a of w and of w − 1, where bit i is the lowest of w
shared : (i w a : ℕ) → has w i ≡ true → ((j : ℕ) → j < i → has w j ≡ false)
    → (has w a && has (w - 1) a) ≡ (has w a && not (eqb a i))
shared zero w zero t f =
    let e : w % 2 ≡ 1 = eqb-true (w % 2) 1 (sym (has-low w) ∙ t) in
    ap (λ (b : Bool). has w 0 && b) (has-low (w - 1) ∙ ne_eqb ((w - 1) % 2) 1 (omega arith))
shared zero w (suc a) t f =
    let e : w % 2 ≡ 1 = eqb-true (w % 2) 1 (sym (has-low w) ∙ t) in
    let q : (w - 1) / 2 ≡ w / 2 = omega arith in
    ap (λ (b : Bool). has w (suc a) && b) (has-half (w - 1) a ∙ ap (λ (x : ℕ). has x a) q ∙ sym (has-half w a))
    ∙ and_same (has w (suc a)) ∙ sym (and-true (has w (suc a)))
    ∙ ap (λ (b : Bool). has w (suc a) && not b) (sym (eqb-suc-zero a))
shared (suc i) w zero t f = rw (f 0 (zero-lt-suc i)) refl
shared (suc i) w (suc a) t f =
    let n : w % 2 ≡ 1 → ⊥ = eqb-false (w % 2) 1 (sym (has-low w) ∙ f 0 (zero-lt-suc i)) in
    let q : (w - 1) / 2 ≡ w / 2 - 1 = omega (arith, n, mod-lt w (zero-lt-suc 1)) in
    ap₂ ◌&&◌ (has-half w a) (has-half (w - 1) a ∙ ap (λ (x : ℕ). has x a) q)
    ∙ shared i (w / 2) a (sym (has-half w i) ∙ t) (λ j l. sym (has-half w j) ∙ f (suc j) (omega arith))
    ∙ ap₂ (λ (b c : Bool). b && not c) (sym (has-half w a)) (sym (eqb-suc-suc a i))

pub and-one-less : (w i : ℕ) → w < 2 ^ 64 → LowestOf w i → bit_and w (w - 1) ≡ without_bit w i
and-one-less w i h l =
    has_ext 64 (bit_and w (w - 1)) (without_bit w i) (lt_of_le_of_lt (and_le_l w (w - 1)) h) (without_one_lt 64 w i h)
    (λ a m. has-and w (w - 1) a ∙ shared i w a l.bit.there l.none_below
    ∙ sym (has_without_one 64 w i a l.bit.small m))
