-- The number that digits stand for, and the numbers that a line may have.
-- From: document 01, head ("Counts are in decimal"); document 02, [7] ("both are one to seven digits").
--
--   number_from n l    the number that the digits l stand for, behind those that stand for n; number_of w without any
--   are_digits w       the word w is one or more digits
--   is_number w        the word w is one to seven digits
use Rattle.std.specs.Prelude.{Bool, ◌&&◌, List, [], ◌∷◌, ℕ, ◌+◌, ◌-◌, ◌*◌, leb, length}
use Rattle.text.specs.Bytes.{is_digit, all_of}

unfoldable pub number_from : ℕ → List ℕ → ℕ
number_from n [] = n
number_from n (b ∷ l) = number_from (n * 10 + (b - 48)) l

abbrev pub number_of : List ℕ → ℕ
number_of w = number_from 0 w

unfoldable pub are_digits : List ℕ → Bool
are_digits w = leb 1 (length w) && all_of is_digit w

unfoldable pub is_number : List ℕ → Bool
is_number w = leb 1 (length w) && leb (length w) 7 && all_of is_digit w
