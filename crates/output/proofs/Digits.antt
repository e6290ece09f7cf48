-- Laws of a number that is written in decimal: one digit, or the digits in front of the last and then the last.
-- Assumes nothing.
use mathlib.Core.List.{List, [], ◌∷◌}
use Prim.Native.Nat.{ℕ, ◌/◌, ◌%◌, ◌^◌, ◌≤◌, ◌<◌}
use native.Mathlib.Omega.{arith}
use Rattle.output.specs.Decimal.{digit_byte, decimal}
use Rattle.output.specs.Writing.{Writes, Room}
use Rattle.output.proofs.Laying.{writes-append, room-front, room-behind}
use Rattle.output.proofs.Decimals.{decimal-one, decimal-more}

pub one-room : {n at : ℕ} → n < 10 → Room (decimal n) at → Room (digit_byte (n % 10) ∷ []) at
one-room {n} h r = rw (decimal-one n h) at r

pub one_written : {n at r : ℕ} {out u : List ℕ} → n < 10 → Writes (digit_byte (n % 10) ∷ []) out at r u
    → Writes (decimal n) out at r u
one_written {n} h w = rw (decimal-one n h) w

module _ {n at : ℕ} (h : 10 ≤ n) (k : n < 2 ^ 64) where
  pub front-room : Room (decimal n) at → Room (decimal (n / 10)) at
  front-room r = room-front (decimal (n / 10)) (_ ∷ []) at (rw (decimal-more n h (omega arith)) at r)

  module _ {m : ℕ} {out out₁ : List ℕ} (w : Writes (decimal (n / 10)) out at m out₁) where
    pub last-room : Room (decimal n) at → Room (digit_byte (n % 10) ∷ []) m
    last-room r =
        room-behind (decimal (n / 10)) (_ ∷ []) at (rw (decimal-more n h (omega arith)) at r) w.place_is

    pub last_written : {r : ℕ} {out₂ : List ℕ} → Writes (digit_byte (n % 10) ∷ []) out₁ m r out₂
        → Writes (decimal n) out at r out₂
    last_written v = rw (decimal-more n h (omega arith)) (writes-append w v)
