-- Which lanes of a block are minimal, and the settings of lanes, the lowest first. Assumes nothing.
use mathlib.Core.Path.{◌≡◌, refl, sym, ap, ap₂, ◌∙◌}
use mathlib.Core.Bool.{Bool, true, false, ◌&&◌}
use mathlib.Core.List.{List, [], ◌∷◌, ◌++◌, append-nil}
use mathlib.Core.Logic.{⊎_elim}
use Prim.Native.Nat.{ℕ, zero, suc, ◌+◌, ◌-◌, ◌^◌, ◌≤◌, ◌<◌}
use native.Mathlib.Nat.{eq-or-lt_of_le, le_of_suc-le-suc}
use native.Mathlib.Omega.{arith}
use lib.Bits.{bit_and}
use Rattle.words.specs.Choice.{cons_if}
use Rattle.words.specs.Bits.{has}
use Rattle.words.specs.OneBit.{without_bit, LowestOf}
use Rattle.words.proofs.Bits.{has-and, has-not}
use Rattle.words.proofs.Words.{has_lowest}
use Rattle.words.proofs.BitWalks.{without_here, without_other}
use Rattle.cost.specs.Block.{settings_at, MinimalIn}

-- v has the lowest m bits
pub minimal-lanes : (e larger m first v : ℕ) → larger < 2 ^ 64 → v + 1 ≡ 2 ^ m
    → MinimalIn e larger m first (record { first = first; lanes = bit_and (bit_and e (2 ^ 64 - 1 - larger)) v })
minimal-lanes e larger m first v h q = record {
  first-is = refl;
  lanes_are = λ j l.
      has-and (bit_and e (2 ^ 64 - 1 - larger)) v j
      ∙ ap₂ ◌&&◌
      (has-and e (2 ^ 64 - 1 - larger) j ∙ ap (λ (t : Bool). has e j && t) (has-not 64 larger j h l))
      (has_lowest m v j q);
}

-- ---- the settings of lanes
pub settings-at-next : (first w n : ℕ)
    → settings_at first w (suc n) ≡ settings_at first w n ++ cons_if (has w n) (first + n) []
unfolding settings_at
settings-at-next first w n = refl

pub settings-at-none : (first w n : ℕ) → ((j : ℕ) → j < n → has w j ≡ false) → settings_at first w n ≡ []
unfolding settings_at
settings-at-none first w zero h = refl
settings-at-none first w (suc n) h =
    ap₂ (λ (l : List ℕ) (t : Bool). l ++ cons_if t (first + n) [])
    (settings-at-none first w n (λ j l. h j (omega arith))) (h n (omega arith))

-- lanes from m on have no setting
pub settings-at-cut : (first w m n : ℕ) → m ≤ n → ((j : ℕ) → m ≤ j → j < n → has w j ≡ false)
    → settings_at first w n ≡ settings_at first w m
unfolding settings_at
settings-at-cut first w m zero l h = let e : m ≡ 0 = omega arith in ap (settings_at first w) (sym e)
settings-at-cut first w m (suc n) l h =
    ⊎_elim
    (λ (e : m ≡ suc n). ap (settings_at first w) (sym e))
    (λ (q : m < suc n).
    ap (λ (t : Bool). settings_at first w n ++ cons_if t (first + n) []) (h n (omega arith) (omega arith))
    ∙ append-nil (settings_at first w n) ∙ settings-at-cut first w m n (omega arith) (λ j i k. h j i (omega arith)))
    (eq-or-lt_of_le l)

module _ (first w i : ℕ) (b : LowestOf w i) where
  abbrev x : ℕ
  x = without_bit w i

  -- among the lanes below n, of which i is one
  lowest_below : (n : ℕ) → i < n → n ≤ 64 → settings_at first w n ≡ (first + i) ∷ settings_at first x n
  unfolding settings_at
  lowest_below zero l m = absurd (omega arith)
  lowest_below (suc n) l m =
      ⊎_elim here (λ (q : i < n). behind q (lowest_below n q (omega arith))) (eq-or-lt_of_le (le_of_suc-le-suc l))
    where
      -- the settings of the lanes of v up to n, where those below n have none
      last : (v : ℕ) (t : Bool) → ((j : ℕ) → j < n → has v j ≡ false) → has v n ≡ t
          → settings_at first v (suc n) ≡ cons_if t (first + n) []
      last v t h e =
          ap₂ (λ (l : List ℕ) (u : Bool). l ++ cons_if u (first + n) []) (settings-at-none first v n h) e

      here : i ≡ n → settings_at first w (suc n) ≡ (first + i) ∷ settings_at first x (suc n)
      here e =
          last w true (λ j q. b.none_below j (omega arith)) (ap (has w) (sym e) ∙ b.bit.there)
          ∙ ap₂ (λ (k : ℕ) (l : List ℕ). (first + k) ∷ l) (sym e)
          (sym (last x false
          (λ j q. without_other w i b.bit j (omega arith) (λ z. omega arith) ∙ b.none_below j (omega arith))
          (ap (has x) (sym e) ∙ without_here w i b.bit)))

      behind : i < n → settings_at first w n ≡ (first + i) ∷ settings_at first x n
          → settings_at first w (suc n) ≡ (first + i) ∷ settings_at first x (suc n)
      behind q ih = ap₂ (λ (l : List ℕ) (t : Bool). l ++ cons_if t (first + n) []) ih
          (sym (without_other w i b.bit n (omega arith) (λ z. omega arith)))

  pub settings-at_lowest : settings_at first w 64 ≡ (first + i) ∷ settings_at first x 64
  settings-at_lowest = lowest_below 64 b.bit.small (omega arith)
