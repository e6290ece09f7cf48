-- What the operation *settle one setting* answers, on every input.
-- From: document 01, "What each operation refuses"; document 02, [6] (the decided atoms), [10] (14 by the product).
--
--   settle_refusal   0, or 1 a lent table too short, 13 the case isn't sound, 14 the case has no such setting
--   program_of       the case's program with a setting's facts and assumptions added
--   SettledOne       the refusal, or what settling the program comes to
use Rattle.std.specs.Prelude.{◌≡◌, List, [], ◌∷◌, ℕ, ltb, Result, IfOk}
use Rattle.refusals.specs.declared.Refusal.{Refusal}
use Rattle.refusals.specs.Refusal.{refused_as}
use Rattle.words.specs.Choice.{check, first_failed}
use Rattle.program.specs.declared.case.Case.{Case}
use Rattle.program.specs.Case.{tables_full}
use Rattle.program.specs.Program.{Clause, program_with}
use Rattle.program.specs.Cause.{causes_of}
use Rattle.program.specs.Setting.{settings_of, additions_of}
use Rattle.program.specs.Sound.{sound}
use Rattle.settle.specs.declared.settle.Settled.{Settled}
use Rattle.settle.specs.Rounds.{settled}

unfoldable pub settle_refusal : Case → List ℕ → List ℕ → List ℕ → ℕ → ℕ
settle_refusal c cl co fo s =
    first_failed
    (check 1 (tables_full cl co fo)
    ∷ check 13 (sound c cl co fo)
    ∷ check 14 (ltb s (settings_of (causes_of c cl)))
    ∷ [])

abbrev pub program_of : Case → List ℕ → ℕ → List Clause
program_of c cl s = program_with cl c.clauses (additions_of (causes_of c cl) s)

pub record SettledOne (c : Case) (cl co fo : List ℕ) (s : ℕ) (r : Result Settled Refusal) : Type 0 where
  pub refusal_is : refused_as r ≡ settle_refusal c cl co fo s
  pub settled_is : IfOk r (λ a. a ≡ settled (program_of c cl s))
