-- The lines of a file.
-- From: document 01, "The file" ("Lines end in LF; the last may lack it").
--
--   lines f        the lines of the file f, without their LFs; a final LF starts no further line
--   is_comment l   the first byte of l is `;`
use Rattle.std.specs.Prelude.{Bool, false, List, [], ◌∷◌, ◌++◌, ℕ, eqb}
use Rattle.words.specs.Choice.{pick}

-- a last line that lacks its LF, unless it is empty
abbrev pub last_line : List ℕ → List (List ℕ)
last_line [] = []
last_line (b ∷ l) = (b ∷ l) ∷ []

-- the lines of what is left, behind the part l of a line
unfoldable pub lines_from : List ℕ → List ℕ → List (List ℕ)
lines_from l [] = last_line l
lines_from l (b ∷ f) =
    let ended = l ∷ lines_from [] f in
    let more = lines_from (l ++ (b ∷ [])) f in
    pick (eqb b 10) ended more

abbrev pub lines : List ℕ → List (List ℕ)
lines f = lines_from [] f

unfoldable pub is_comment : List ℕ → Bool
is_comment [] = false
is_comment (b ∷ l) = eqb b 59
