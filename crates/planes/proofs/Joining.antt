-- The literals of a body joined one by one, in lanes: the value so far and the literals left are always all.
-- Assumes nothing.
use mathlib.Core.Path.{◌≡◌, refl, sym, ap, ap₂, ◌∙◌}
use mathlib.Core.Bool.{Bool, true, false, not, ◌&&◌, ◌||◌, or-false, not-not}
use mathlib.Core.List.{List}
use Prim.Native.Nat.{ℕ, ◌-◌, ◌^◌, ◌<◌}
use lib.Bits.{bit_and, bit_or}
use lib.ListN.{get_or}
use Rattle.words.specs.Below.{any}
use Rattle.words.specs.Bits.{has}
use Rattle.words.specs.OneBit.{without_bit, BitOf}
use Rattle.words.proofs.Below.{any_ext, any-or, all-false}
use Rattle.words.proofs.Bits.{has-zero, has-and, has-or}
use Rattle.words.proofs.BitWalks.{any_without}
use Rattle.logic.specs.declared.value.Value.{Value}
use Rattle.logic.specs.Formula.{value_of, body}
use Rattle.logic.specs.Interpretation.{value_at}
use Rattle.logic.proofs.Bodies.{missed, opposed, true_literals, false_literals}
use Rattle.planes.specs.declared.plane.Lanes.{Lanes}
use Rattle.planes.specs.Planes.{at, column, Planes, Is, some_missing, some_present, Joined}
use Rattle.planes.proofs.Columns.{all_lanes, column_true, column_false}
use Rattle.planes.proofs.Choosing.{or_move, or-front, missed_move}

-- ---- the atoms of w joined to b
module _ (t f : List ℕ) (w : ℕ) (b : Lanes) where
  -- the value joined so far and the atoms left are all
  pub record Joining (left up down : ℕ) : Type 0 where
    trues_all : (j : ℕ) → (some_missing t left j || not (has up j)) ≡ (some_missing t w j || not (has b.trues j))
    falses_all : (j : ℕ) → (some_present f left j || has down j) ≡ (some_present f w j || has b.falses j)

  pub joining_start : Joining w b.trues b.falses
  joining_start = record { trues_all = λ j. refl; falses_all = λ j. refl }

  pub joining_next : (left up down i : ℕ) → Joining left up down → BitOf left i
      → Joining (without_bit left i) (bit_and up (get_or t i 0)) (bit_or down (get_or f i 0))
  joining_next left up down i h q = record {
    trues_all = λ j. ap (λ (x : Bool). some_missing t (without_bit left i) j || not x) (has-and up (get_or t i 0) j)
        ∙ missed_move (some_missing t (without_bit left i) j) (has up j) (at t j i)
        ∙ ap (λ (x : Bool). x || not (has up j)) (sym (any_without left i q (λ k. not (at t j k))))
        ∙ h.trues_all j;
    falses_all = λ j. ap (λ (x : Bool). some_present f (without_bit left i) j || x) (has-or down (get_or f i 0) j)
        ∙ or_move (some_present f (without_bit left i) j) (has down j) (at f j i)
        ∙ ap (λ (x : Bool). x || has down j) (sym (any_without left i q (λ k. at f j k)))
        ∙ h.falses_all j;
  }

  pub joining_end : (left up down : ℕ) → Joining left up down → left ≡ 0
      → Joined t f w b (record { trues = up; falses = down })
  joining_end left up down h e = record {
    trues_are = λ j. ap (λ (x : Bool). x || not (has up j)) (sym (none (λ i. not (at t j i)))) ∙ h.trues_all j;
    falses_are = λ j. ap (λ (x : Bool). x || has down j) (sym (none (λ i. at f j i))) ∙ h.falses_all j;
  }
    where
      none : (p : ℕ → Bool) → any 64 (λ i. has left i && p i) ≡ false
      none p =
          all-false 64 (λ i. has left i && p i)
          (λ i m. ap (λ (s : Bool). s && p i) (ap (λ (x : ℕ). has x i) e ∙ has-zero i))

-- ---- a body
module _ (t f : List ℕ) (p n : ℕ) (d : Planes t f) (b c r : Lanes)
    (e : b ≡ record { trues = 2 ^ 64 - 1 - 0; falses = 0 }) (h : Joined t f p b c) (k : Joined f t n c r) where
  module _ (j : ℕ) (l : j < 64) where
    abbrev v : ℕ → Value
    v = value_at (column t f j)

    all_true : has b.trues j ≡ true
    all_true = ap (λ (x : Lanes). has x.trues j) e ∙ all_lanes j l

    none_false : has b.falses j ≡ false
    none_false = ap (λ (x : Lanes). has x.falses j) e ∙ has-zero j

    missed-is : any 64 (missed v p n) ≡ (some_missing t p j || some_missing f n j)
    missed-is =
        any_ext 64 (missed v p n) (λ i. has p i && not (at t j i) || has n i && not (at f j i))
        (λ a m. ap₂ (λ (x y : Bool). has p a && not x || has n a && not y)
        (column_true t f j a m) (column_false t f j (d j l) a m))
        ∙ any-or 64 (λ i. has p i && not (at t j i)) (λ i. has n i && not (at f j i))

    opposed-is : any 64 (opposed v p n) ≡ (some_present f p j || some_present t n j)
    opposed-is =
        any_ext 64 (opposed v p n) (λ i. has p i && at f j i || has n i && at t j i)
        (λ a m. ap₂ (λ (x y : Bool). has p a && x || has n a && y)
        (column_false t f j (d j l) a m) (column_true t f j a m))
        ∙ any-or 64 (λ i. has p i && at f j i) (λ i. has n i && at t j i)

    missing-is : not (has r.trues j) ≡ any 64 (missed v p n)
    missing-is =
        k.trues_are j ∙ ap (λ (x : Bool). some_missing f n j || x) (h.trues_are j)
        ∙ or-front (some_missing f n j) (some_missing t p j) (not (has b.trues j))
        ∙ ap (λ (x : Bool). (some_missing t p j || some_missing f n j) || not x) all_true
        ∙ or-false (some_missing t p j || some_missing f n j) ∙ sym missed-is

    pub body_is : Is r j (value_of v (body p n))
    body_is = record {
      is_true = sym (not-not (has r.trues j)) ∙ ap not missing-is ∙ sym (true_literals v p n 64);
      is_false = k.falses_are j ∙ ap (λ (x : Bool). some_present t n j || x) (h.falses_are j)
          ∙ or-front (some_present t n j) (some_present f p j) (has b.falses j)
          ∙ ap (λ (x : Bool). (some_present f p j || some_present t n j) || x) none_false
          ∙ or-false (some_present f p j || some_present t n j) ∙ sym opposed-is ∙ sym (false_literals v p n 64);
    }
