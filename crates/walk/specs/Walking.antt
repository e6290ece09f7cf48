-- What a walk over all settings is given, and where it stands before setting s.
--
--   AtHand ..     the case is sound, and its heads and causes are at hand
--   Summed ..     the sums of what settling answers for the settings below s
--   Walked ..     what it has found and left, those sums, and the cheapest minimal setting below s
use Rattle.std.specs.Prelude.{◌≡◌, true, List, ℕ}
use Rattle.program.specs.declared.case.Case.{Case}
use Rattle.program.specs.declared.cause.Causes.{Causes}
use Rattle.program.specs.Program.{heads_of}
use Rattle.program.specs.Cause.{causes_of}
use Rattle.program.specs.Sound.{sound}
use Rattle.lanes.specs.declared.rounds.Sums.{Sums}
use Rattle.explanation.specs.Judge.{Judge}
use Rattle.cost.specs.Cheapest.{Chosen}
use Rattle.verdict.specs.Walk.{minimals_below, rounds_below, decided_below}
use Rattle.verdict.specs.Visited.{Visited}
use Rattle.walk.specs.declared.walk.Tally.{Tally}

pub record AtHand (c : Case) (cl co fo : List ℕ) (heads : ℕ) (causes : Causes) : Type 0 where
  pub is-sound : sound c cl co fo ≡ true
  pub heads_are : heads ≡ heads_of cl c.clauses
  pub causes_are : causes ≡ causes_of c cl

pub record Summed (J : Judge) (s : ℕ) (r : Sums) : Type 0 where
  pub rounds_are : r.rounds ≡ rounds_below J s
  pub decided_are : r.decided ≡ decided_below J s

-- f is what a setting costs
pub record Walked (J : Judge) (f : ℕ → ℕ) (cs list₀ work₀ : List ℕ) (s : ℕ) (t : Tally) (list work : List ℕ)
    : Type 0 where
  pub visited : Visited J cs list₀ work₀ s t.found list work
  pub summed : Summed J s t.sums
  pub chosen : Chosen f (minimals_below J cs s) t.cheapest
