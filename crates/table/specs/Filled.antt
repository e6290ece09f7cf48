-- Lent tables whose first entries are filled.
-- From: document 01, "The file" ("Reading fills unused entries with zeros; bytes past the stated sizes keep theirs").
--
--   filled n l old     old with its first n entries replaced, by l and by zeros past l
--   padded n l         the first n entries of l, and zeros where l has fewer
use Rattle.std.specs.Prelude.{List, [], ◌∷◌, ℕ, zero, suc}

unfoldable pub filled : ℕ → List ℕ → List ℕ → List ℕ
filled zero l old = old
filled (suc n) l [] = []
filled (suc n) [] (o ∷ old) = 0 ∷ filled n [] old
filled (suc n) (x ∷ l) (o ∷ old) = x ∷ filled n l old

unfoldable pub padded : ℕ → List ℕ → List ℕ
padded zero l = []
padded (suc n) [] = 0 ∷ padded n []
padded (suc n) (x ∷ l) = x ∷ padded n l
