-- How many settings there are, cause by cause: the product of the choice counts so far times the settings of the causes
-- left.
--
--   Multiplied tw w p left    p is the product for the causes of w without those left, and at most 59,049
-- Assumes nothing.
use mathlib.Core.Path.{◌≡◌, refl, sym, ap, ◌∙◌}
use mathlib.Core.Bool.{Bool, true, false}
use Prim.Native.Nat.{ℕ, ◌*◌, ◌≤◌, ◌<◌, min}
use native.Mathlib.Nat.{mul-one, mul_assoc, le-mul_of_pos_right}
use native.Mathlib.Omega.{arith}
use lib.Dec.{leb}
use borrow.Author.Tests.{leb-true, leb-false, le-leb, lt-leb}
use Rattle.words.specs.OneBit.{without_bit, LowestOf}
use Rattle.program.specs.Cause.{causes_by}
use Rattle.program.specs.Setting.{choice_of, settings_of}
use Rattle.program.proofs.Settings.{settings-none, settings_lowest, settings-some}

pub record Multiplied (tw w p left : ℕ) : Type 0 where
  pub few : p ≤ 59049
  pub product_is : p * settings_of (causes_by tw left) ≡ settings_of (causes_by tw w)

module _ (tw w p left a r : ℕ) (m : Multiplied tw w p left) (l : LowestOf left a) (e : r ≡ choice_of tw a) where
  with_lowest : p * r * settings_of (causes_by tw (without_bit left a)) ≡ settings_of (causes_by tw w)
  with_lowest =
      mul_assoc p r (settings_of (causes_by tw (without_bit left a)))
      ∙ ap (λ (c : ℕ). p * (c * settings_of (causes_by tw (without_bit left a)))) e
      ∙ ap (λ (n : ℕ). p * n) (sym (settings_lowest tw left a l)) ∙ m.product_is

  pub multiplied_next : p * r ≤ 59049 → Multiplied tw w (p * r) (without_bit left a)
  multiplied_next h = record { few = h; product_is = with_lowest }

  -- with a product over 59,049 there are more settings
  pub multiplied_over : 59049 < p * r → 59050 ≡ min (settings_of (causes_by tw w)) 59050
  multiplied_over h =
      let n = le-mul_of_pos_right (p * r) (settings-some tw (without_bit left a)) in
      omega (arith, h, n, with_lowest)

pub multiplied_end : (tw w p left : ℕ) → Multiplied tw w p left → left ≡ 0
    → p ≡ min (settings_of (causes_by tw w)) 59050
multiplied_end tw w p left m z =
    let g : Multiplied tw w p 0 = rw z at m in
    let q : p ≡ settings_of (causes_by tw w) =
    sym (mul-one p) ∙ ap (λ (n : ℕ). p * n) (sym (settings-none tw)) ∙ g.product_is in
    omega (arith, q, g.few)

-- ---- the number that the code answers: all settings, or 59,050
pub capped_is : (n r : ℕ) → n ≤ 59049 → r ≡ min n 59050 → r ≡ n
capped_is n r h e = omega (arith, h, e)

pub capped_few : (n r : ℕ) → r ≡ min n 59050 → leb r 59049 ≡ leb n 59049
capped_few n r e = go (leb n 59049) refl
  where
    go : (b : Bool) → leb n 59049 ≡ b → leb r 59049 ≡ leb n 59049
    go true q = le-leb r 59049 (omega (arith, e, leb-true n 59049 q)) ∙ sym q
    go false q = lt-leb r 59049 (omega (arith, e, leb-false n 59049 q)) ∙ sym q
