-- What writing a text promises: all but that the system's calls move the bytes.
-- From: document 01, "The program `causes`".
--
--   WritesText r old new t    from old to new, the bytes written grow by the text t, or at an error by a beginning of
--                             it
--   TellsFault what old new   from old to new, the bytes written grow by a line that begins with what and a colon
use Rattle.std.specs.Prelude.{◌++◌, ◌∷◌, [], codes, List, ℕ, take, MatchResult, Result, Option}
use Rattle.std.specs.Io.KnownBytes.{Appends}

abbrev pub WritesText : {T E : Type 0} → Result T E → Option (List ℕ) → Option (List ℕ) → List ℕ → Type 0
WritesText r old new t = MatchResult r (λ _. Appends old new t) (λ _. (k : ℕ) × Appends old new (take k t))

abbrev pub TellsFault : List ℕ → Option (List ℕ) → Option (List ℕ) → Type 0
TellsFault what old new = (words : List ℕ) × Appends old new (what ++ (codes ": " ++ (words ++ (10 ∷ []))))
