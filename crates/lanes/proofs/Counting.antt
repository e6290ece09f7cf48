-- The decided atoms of lanes: counted atom by atom, they are those of each lane together. Assumes nothing.
use mathlib.Core.Path.{◌≡◌, sym, ap, ap₂, ◌∙◌}
use mathlib.Core.Bool.{◌||◌}
use mathlib.Core.List.{List}
use Prim.Native.Nat.{ℕ, ◌+◌, ◌^◌, ◌≤◌, ◌<◌}
use native.Mathlib.Nat.{lt_of_le_of_lt}
use native.Mathlib.Omega.{arith}
use lib.Bits.{bit_and, bit_or, and_le_r}
use lib.Count.{ones, ones-le}
use lib.ListN.{get_or}
use Rattle.words.specs.Below.{sum}
use Rattle.words.specs.Bits.{has, digit}
use Rattle.words.proofs.Bits.{has-or}
use Rattle.words.proofs.Words.{has_word}
use Rattle.words.proofs.Sums.{sum-none, sum_more, sum_ext, sum-swap, sum-le, ones_lowest}
use Rattle.logic.specs.Value.{is_decided}
use Rattle.logic.specs.Interpretation.{value_at, decided_in}
use Rattle.logic.proofs.Interpretations.{decided-at}
use Rattle.logic.proofs.Decided.{decided-sum}
use Rattle.planes.specs.Planes.{at, column, Planes}
use Rattle.planes.proofs.Columns.{column_good}

-- the lanes of v count
module _ (t f : List ℕ) (v : ℕ) where
  -- the lanes in which the atom a is decided
  abbrev decided_lanes : ℕ → ℕ
  decided_lanes a = bit_or (get_or t a 0) (get_or f a 0)

  -- total counts the first a atoms
  pub record Counting (total a : ℕ) : Type 0 where
    pub below : a ≤ 64
    pub total_is : total ≡ sum a (λ b. ones (bit_and (decided_lanes b) v))

  pub counting_start : Counting 0 0
  counting_start = record { below = omega arith; total_is = sym (sum-none _) }

  module _ {total a : ℕ} (c : Counting total a) where
    pub counting_small : {r : ℕ} → r ≡ ones (bit_and (decided_lanes a) v) → v < 2 ^ 64 → total + r ≤ 5000
    counting_small e h =
        let few : (b : ℕ) → ones (bit_and (decided_lanes b) v) ≤ 64 =
        λ b. ones-le 64 _ (lt_of_le_of_lt (and_le_r (decided_lanes b) v) h) in
        let each = sum-le a 64 (λ b. ones (bit_and (decided_lanes b) v)) (λ b l. few b) in
        omega (arith, c.below, c.total_is, each, few a)

    pub counting_next : {r : ℕ} → r ≡ ones (bit_and (decided_lanes a) v) → a < 64 → Counting (total + r) (a + 1)
    counting_next e l = record {
      below = omega arith;
      total_is = ap₂ ◌+◌ c.total_is e ∙ sum_more a (λ b. ones (bit_and (decided_lanes b) v));
    }

    -- v has the lowest m bits
    module _ (m : ℕ) (few : m ≤ 64) (fits : v < 2 ^ 64) (low : v + 1 ≡ 2 ^ m) (d : Planes t f) where
      lane_decided : (j : ℕ) → j < 64 → decided_in (column t f j) ≡ sum 64 (λ a. digit (has (decided_lanes a) j))
      lane_decided j l =
          decided-sum (column t f j) (column_good t f j (d j l))
          ∙ sum_ext 64 (λ a. digit (is_decided (value_at (column t f j) a))) (λ a. digit (has (decided_lanes a) j))
          (λ a q. ap digit
          (sym (decided-at (column t f j) a)
          ∙ has-or (column t f j).trues (column t f j).falses a
          ∙ ap₂ ◌||◌ (has_word 64 (at t j) a q) (has_word 64 (at f j) a q)
          ∙ sym (has-or (get_or t a 0) (get_or f a 0) j)))

      pub counting_end : 64 ≤ a → total ≡ sum m (λ j. decided_in (column t f j))
      counting_end l =
          let all : a ≡ 64 = omega (arith, c.below) in
          c.total_is
          ∙ ap (λ (n : ℕ). sum n (λ b. ones (bit_and (decided_lanes b) v))) all
          ∙ sum_ext 64 (λ b. ones (bit_and (decided_lanes b) v)) (λ b. sum m (λ j. digit (has (decided_lanes b) j)))
          (λ b q. ones_lowest (decided_lanes b) v m fits few low)
          ∙ sum-swap 64 m (λ b j. digit (has (decided_lanes b) j))
          ∙ sum_ext m _ (λ j. decided_in (column t f j)) (λ j q. sym (lane_decided j (omega arith)))
