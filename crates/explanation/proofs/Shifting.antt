-- Laws of shifted words, and of 64 bits out of two words. Assumes nothing.
use mathlib.Core.Path.{◌≡◌, sym, ap, ap₂, ◌∙◌}
use mathlib.Core.Bool.{Bool, false, ◌||◌, or-false}
use mathlib.Core.Logic.{⊎_elim}
use Prim.Native.Nat.{ℕ, suc, ◌+◌, ◌-◌, ◌*◌, ◌/◌, ◌%◌, ◌^◌, ◌≤◌, ◌<◌}
use native.Mathlib.Nat.{mul_assoc, pow-suc}
use native.Mathlib.Omega.{arith}
use lib.Bits.{bit_or}
use lib.Dec.{eqb, ltb}
use lib.Pow.{pow-add, shl-shr, shr-shr, field, mod-mod-pow}
use borrow.Author.Tests.{ne_eqb, lt-ltb, le-ltb}
use Rattle.words.specs.Choice.{pick}
use Rattle.words.specs.Bits.{odd, has}
use Rattle.words.proofs.Tests.{lt-or-le}
use Rattle.words.proofs.Bits.{has_above, has-or}
use Rattle.explanation.specs.Row.{Glued}

has_shr : (w r j : ℕ) → has (w / 2 ^ r) j ≡ has w (r + j)
unfolding has
has_shr w r j = ap odd (shr-shr w r j)

-- the lowest k bits
has-mod : (w k j : ℕ) → j < k → has (w % 2 ^ k) j ≡ has w j
unfolding has
has-mod w k j l =
    let i = k - j - 1 in
    let e : k ≡ (i + 1) + j = omega arith in
    ap (λ (n : ℕ). odd (w % 2 ^ n / 2 ^ j)) e ∙ ap odd (field w (i + 1) j)
    ∙ ap (λ (n : ℕ). eqb n 1) (mod-mod-pow (w / 2 ^ j) i 1)

has_shl : (w k j : ℕ) → k ≤ j → has (w * 2 ^ k) j ≡ has w (j - k)
has_shl w k j l =
    let e : k + (j - k) ≡ j = omega arith in
    ap (has (w * 2 ^ k)) (sym e) ∙ sym (has_shr (w * 2 ^ k) k (j - k)) ∙ ap (λ (n : ℕ). has n (j - k)) (shl-shr w k)

even_odd : (x : ℕ) → odd (x * 2) ≡ false
even_odd x = ne_eqb (x * 2 % 2) 1 (omega arith)

has_shl_low : (w k j : ℕ) → j < k → has (w * 2 ^ k) j ≡ false
unfolding has
has_shl_low w k j l =
    let i = k - j - 1 in
    let e : k ≡ suc i + j = omega arith in
    ap (λ (n : ℕ). odd (w * 2 ^ n / 2 ^ j)) e
    ∙ ap (λ (n : ℕ). odd (w * n / 2 ^ j)) (pow-add 2 (suc i) j)
    ∙ ap (λ (n : ℕ). odd (n / 2 ^ j)) (sym (mul_assoc w (2 ^ suc i) (2 ^ j)))
    ∙ ap odd (shl-shr (w * 2 ^ suc i) j)
    ∙ ap (λ (n : ℕ). odd (w * n)) (pow-suc 2 i) ∙ ap odd (sym (mul_assoc w (2 ^ i) 2)) ∙ even_odd (w * 2 ^ i)

-- ---- the bits of low from r on, and behind them those of high
module _ (low high r j : ℕ) where
  abbrev chosen : Bool → Bool
  chosen t = pick t (has low (r + j)) (has high (r + j - 64))

  from_low : r + j < 64 → (has low (r + j) || has (high * 2 ^ (64 - r)) j) ≡ chosen (ltb (r + j) 64)
  from_low q =
      ap (λ (t : Bool). has low (r + j) || t) (has_shl_low high (64 - r) j (omega arith))
      ∙ or-false (has low (r + j))
      ∙ sym (ap chosen (lt-ltb (r + j) 64 q))

  from-high : low < 2 ^ 64 → r < 64 → 64 ≤ r + j
      → (has low (r + j) || has (high * 2 ^ (64 - r)) j) ≡ chosen (ltb (r + j) 64)
  from-high h l q =
      let e : j - (64 - r) ≡ r + j - 64 = omega arith in
      ap₂ ◌||◌ (has_above 64 low (r + j) h q) (has_shl high (64 - r) j (omega arith) ∙ ap (has high) e)
      ∙ sym (ap chosen (le-ltb (r + j) 64 q))

pub glued : (low high r : ℕ) → low < 2 ^ 64 → r < 64
    → Glued low high r (bit_or (low / 2 ^ r) ((high * 2 ^ (64 - r)) % 2 ^ 64))
glued low high r h l j m =
    has-or (low / 2 ^ r) ((high * 2 ^ (64 - r)) % 2 ^ 64) j
    ∙ ap₂ ◌||◌ (has_shr low r j) (has-mod (high * 2 ^ (64 - r)) 64 j m)
    ∙ ⊎_elim (from_low low high r j) (from-high low high r j h l) (lt-or-le (r + j) 64)
