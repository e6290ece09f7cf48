-- What writing to a lent output leaves in it.
--
--   laid out at s   out with the bytes of s from place at on, as far as out goes
--   Writes s ..     the bytes s were written from a place on; the answer is the place behind them
--   text_limit      places stay below it
--   Room s at       the bytes s end at or before that limit
use Rattle.std.specs.Prelude.{◌≡◌, List, [], ◌∷◌, ℕ, suc, ◌+◌, ◌^◌, ◌≤◌, length, set}

unfoldable pub laid : List ℕ → ℕ → List ℕ → List ℕ
laid out at [] = out
laid out at (b ∷ s) = laid (set out at b) (suc at) s

pub record Writes (s out : List ℕ) (at r : ℕ) (outAfter : List ℕ) : Type 0 where
  pub place_is : r ≡ at + length s
  pub out_is : outAfter ≡ laid out at s

abbrev pub text_limit : ℕ
text_limit = 2 ^ 32

pub record Room (s : List ℕ) (at : ℕ) : Type 0 where
  pub fits : at + length s ≤ text_limit
