-- 64 bits of a row from any place on, and the lanes in which a setting that lacks one digit has its bit, the causes
-- taken one by one. Assumes nothing.
use mathlib.Core.Path.{◌≡◌, refl, sym, ap, ap₂, ◌∙◌}
use mathlib.Core.Bool.{Bool, true, false, ◌&&◌, ◌||◌, or-false}
use mathlib.Core.List.{List}
use mathlib.Core.Logic.{⊎_elim}
use Prim.Native.Nat.{ℕ, ◌+◌, ◌-◌, ◌*◌, ◌/◌, ◌%◌, ◌≤◌, ◌<◌}
use native.Mathlib.Omega.{arith}
use lib.Bits.{bit_and, bit_or}
use lib.Dec.{ltb}
use lib.ListN.{get_or}
use borrow.Author.Tests.{lt-ltb, le-ltb}
use Rattle.words.specs.Choice.{pick}
use Rattle.words.specs.Below.{any}
use Rattle.words.specs.Bits.{has}
use Rattle.words.specs.OneBit.{without_bit, BitOf}
use Rattle.words.proofs.Tests.{lt-or-le, and_true_l}
use Rattle.words.proofs.Below.{all-false}
use Rattle.words.proofs.Bits.{has-zero, has-and, has-or}
use Rattle.words.proofs.BitWalks.{any_without}
use Rattle.explanation.specs.Row.{row_bit, Glued, dropped_at, Droppable}

-- ---- 64 bits of a row
module _ (row : List ℕ) (place j : ℕ) (l : j < 64) where
  pub bits_whole : place % 64 ≡ 0 → has (get_or row (place / 64) 0) j ≡ row_bit row (place + j)
  bits_whole e =
      let q : place / 64 ≡ (place + j) / 64 = omega arith in
      let r : j ≡ (place + j) % 64 = omega arith in
      ap₂ (λ (i k : ℕ). has (get_or row i 0) k) q r

  abbrev q : ℕ
  q = place / 64

  abbrev r : ℕ
  r = place % 64

  -- the bit of the first or of the second word
  abbrev either : Bool → Bool
  either t = pick t (has (get_or row q 0) (r + j)) (has (get_or row (q + 1) 0) (r + j - 64))

  in_first : r + j < 64 → either (ltb (r + j) 64) ≡ row_bit row (place + j)
  in_first h =
      let e : q ≡ (place + j) / 64 = omega arith in
      let k : r + j ≡ (place + j) % 64 = omega arith in
      ap either (lt-ltb (r + j) 64 h) ∙ ap₂ (λ (i n : ℕ). has (get_or row i 0) n) e k

  in_second : 64 ≤ r + j → either (ltb (r + j) 64) ≡ row_bit row (place + j)
  in_second h =
      let e : q + 1 ≡ (place + j) / 64 = omega arith in
      let k : r + j - 64 ≡ (place + j) % 64 = omega arith in
      ap either (le-ltb (r + j) 64 h) ∙ ap₂ (λ (i n : ℕ). has (get_or row i 0) n) e k

  pub bits-glued : (z : ℕ) → Glued (get_or row q 0) (get_or row (q + 1) 0) r z → has z j ≡ row_bit row (place + j)
  bits-glued z g = g j l ∙ ⊎_elim in_first in_second (lt-or-le (r + j) 64)

-- ---- tests turned
and-turn : (s t : Bool) → (s && t) ≡ (t && s)
and-turn true true = refl
and-turn true false = refl
and-turn false true = refl
and-turn false false = refl

or_turn : (m u z : Bool) → (m || (u || z)) ≡ ((m || z) || u)
or_turn true u z = refl
or_turn false true true = refl
or_turn false true false = refl
or_turn false false z = sym (or-false z)

-- ---- the causes one by one: the lanes found with those passed and to be found with those left are all
pub record Dropping (row : List ℕ) (place causes : ℕ) (weights x y : List ℕ) (lanes left : ℕ) : Type 0 where
  pub within : (a : ℕ) → BitOf left a → BitOf causes a
  pub all : (j : ℕ) → j < 64 → (any 64 (λ a. has left a && dropped_at row place weights x y j a) || has lanes j)
      ≡ any 64 (λ a. has causes a && dropped_at row place weights x y j a)

module _ {row : List ℕ} {place causes : ℕ} {weights x y : List ℕ} where
  pub dropping_start : Dropping row place causes weights x y 0 causes
  dropping_start = record {
    within = λ a b. b;
    all = λ j l.
        let whole = any 64 (λ a. has causes a && dropped_at row place weights x y j a) in
        ap (λ (t : Bool). whole || t) (has-zero j) ∙ or-false whole;
  }

module _ {row : List ℕ} {place causes : ℕ} {weights x y : List ℕ} {lanes left : ℕ}
    (d : Dropping row place causes weights x y lanes left) where
  abbrev test : ℕ → ℕ → Bool
  test j a = dropped_at row place weights x y j a

  -- u and v are the row's bits where the digit 1, and the digit 2, of the cause a is dropped
  module _ (a u v : ℕ) (b : BitOf left a)
      (p : (j : ℕ) → j < 64 → has u j ≡ row_bit row (place - get_or weights a 0 + j))
      (q : (j : ℕ) → j < 64 → has v j ≡ row_bit row (place - 2 * get_or weights a 0 + j)) where
    abbrev found : ℕ
    found = bit_or (bit_and u (get_or x a 0)) (bit_and v (get_or y a 0))

    masked : (w m : ℕ) (j : ℕ) (t : Bool) → has w j ≡ t → has (bit_and w m) j ≡ (has m j && t)
    masked w m j t e = has-and w m j ∙ ap (λ (s : Bool). s && has m j) e ∙ and-turn t (has m j)

    found-is : (j : ℕ) → j < 64 → has found j ≡ test j a
    found-is j l =
        has-or (bit_and u (get_or x a 0)) (bit_and v (get_or y a 0)) j
        ∙ ap₂ ◌||◌ (masked u (get_or x a 0) j _ (p j l)) (masked v (get_or y a 0) j _ (q j l))

    kept : (i : ℕ) → BitOf (without_bit left a) i → has left i ≡ true
    kept i c = and_true_l (has left i) _ (sym (has-and left _ i) ∙ c.there)

    pub dropping_next : Dropping row place causes weights x y (bit_or lanes found) (without_bit left a)
    dropping_next = record {
      within = λ i c. d.within i (record { small = c.small; there = kept i c });
      all = λ j l.
          let others = any 64 (λ i. has (without_bit left a) i && test j i) in
          ap (λ (t : Bool). others || t) (has-or lanes found j ∙ ap (λ (t : Bool). has lanes j || t) (found-is j l))
          ∙ or_turn others (has lanes j) (test j a)
          ∙ ap (λ (t : Bool). t || has lanes j) (sym (any_without left a b (test j)))
          ∙ d.all j l;
    }

  pub dropping_end : left ≡ 0 → Droppable row place causes weights x y lanes
  dropping_end e = record {
    lanes_are = λ j l.
        ap (λ (t : Bool). t || has lanes j)
        (sym (all-false 64 (λ a. has left a && test j a)
        (λ a m. ap (λ (t : Bool). t && test j a) (ap (λ (w : ℕ). has w a) e ∙ has-zero a))))
        ∙ d.all j l;
  }
