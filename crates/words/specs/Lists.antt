-- A list laid over the front of another, as lent memory is filled; and a list by its entries.
-- From: document 01, "What each operation refuses" ("the bytes behind it keep theirs").
--
--   over l old    l, and behind it what old has there
--   list_of n f   f 0, f 1 and so on, n entries
use Rattle.std.specs.Prelude.{List, [], ◌∷◌, ◌++◌, ℕ, zero, suc, length, drop}

abbrev pub over : List ℕ → List ℕ → List ℕ
over l old = l ++ drop (length l) old

unfoldable pub list_of : {A : Type 0} → ℕ → (ℕ → A) → List A
list_of zero f = []
list_of (suc n) f = list_of n f ++ (f n ∷ [])
