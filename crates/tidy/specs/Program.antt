-- What the program writes of its input.
-- From: document 02, [8].
use Rattle.std.specs.Prelude.{◌≡◌, List, ℕ}
use Rattle.tidying.specs.Text.{tidy_text}

-- t is the text of the input i
abbrev pub IsTidy : List ℕ → List ℕ → Type 0
IsTidy i t = t ≡ tidy_text i
