-- What the program writes of an outcome.
--
--   outcome_line c   the line of an outcome, with its end
use Rattle.std.specs.Prelude.{List, ℕ, [], ◌∷◌, ◌++◌, codes}
use Rattle.names.specs.declared.compare.Compared.{Compared}
use Rattle.names.specs.declared.compare.Compared.TheVariants.{EndsDiffer, Another, Same}

abbrev pub outcome_line : Compared → List ℕ
outcome_line EndsDiffer = codes "ends differ" ++ (10 ∷ [])
outcome_line Another = codes "another" ++ (10 ∷ [])
outcome_line Same = codes "same" ++ (10 ∷ [])
