-- Lines of a report: one form each, its parts one space apart.
-- From: document 01, "The program `causes`".
--
--   spaced ps      the texts ps, one space before each
--   form w ps      the form with the word w and the parts ps, in brackets
--   line w ps      the same as a line, which ends in LF
use Rattle.std.specs.Prelude.{List, [], ◌∷◌, ◌++◌, ℕ}
use Rattle.text.specs.Bytes.{bytes}

unfoldable pub spaced : List (List ℕ) → List ℕ
spaced [] = []
spaced (p ∷ ps) = bytes " " ++ (p ++ spaced ps)

unfoldable pub form : List ℕ → List (List ℕ) → List ℕ
form w ps = bytes "(" ++ (w ++ (spaced ps ++ bytes ")"))

unfoldable pub line : List ℕ → List (List ℕ) → List ℕ
line w ps = form w ps ++ bytes "\n"
