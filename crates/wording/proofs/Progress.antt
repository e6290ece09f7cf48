-- A text that is being written piece by piece: what is written so far and what is left make up the whole.
-- Assumes nothing.
use mathlib.Core.Path.{◌≡◌, refl, sym, ap, ◌∙◌}
use mathlib.Core.List.{List, [], ◌++◌, append_assoc, append-nil}
use Prim.Native.Nat.{ℕ}
use Rattle.output.specs.Writing.{Writes, Room}
use Rattle.output.proofs.Laying.{writes-none, writes-append, room-front, room-behind}

-- the text whole is written to out from place at on; left is still to be written, to out₁ from place m on
pub record Underway (whole out : List ℕ) (at : ℕ) (left : List ℕ) (m : ℕ) (out₁ : List ℕ) : Type 0 where
  pub written : List ℕ
  pub whole_is : whole ≡ written ++ left
  pub writes : Writes written out at m out₁

pub underway-start : (whole out : List ℕ) (at : ℕ) → Underway whole out at whole at out
underway-start whole out at = record { written = []; whole_is = refl; writes = writes-none out at }

module _ {whole out left out₁ : List ℕ} {at m : ℕ} (h : Underway whole out at left m out₁) where
  pub underway-room : (piece later : List ℕ) → left ≡ piece ++ later → Room whole at → Room piece m
  underway-room piece later e r =
      let q : Room (h.written ++ (piece ++ later)) at = rw (← e, ← h.whole_is) r in
      room-front piece later m (room-behind h.written (piece ++ later) at q h.writes.place_is)

  pub underway-more : {piece later out₂ : List ℕ} {r : ℕ} → left ≡ piece ++ later → Writes piece out₁ m r out₂
      → Underway whole out at later r out₂
  underway-more {piece} {later} e k = record {
    written = h.written ++ piece;
    whole_is = h.whole_is ∙ ap (λ (l : List ℕ). h.written ++ l) e ∙ sym (append_assoc h.written piece later);
    writes = writes-append h.writes k;
  }

  pub underway-end : left ≡ [] → Writes whole out at m out₁
  underway-end e = rw (h.whole_is, e, append-nil) h.writes
