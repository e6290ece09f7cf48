-- Rounds: applications of the step from the interpretation in which nothing is decided.
-- From: document 01, "Interpretations and the step"; document 02, [6] ("settling carries the sum").
--
--   rounds p k        the interpretation after k rounds
--   unchanged p k     k and k + 1 rounds give the same
--   round_limit       the number of rounds among which it is looked for: as many as there can be atoms
--   round_count p     the least such k; there is one up to the limit (Claims, SetSettled)
--   decided_sum p k   the sum of the atoms newly decided by each of the first k rounds
--   settled p         the settled interpretation with its round count and that sum
use Rattle.std.specs.Prelude.{Bool, List, ℕ, zero, suc}
use Rattle.words.specs.Below.{first, sum}
use Rattle.logic.specs.declared.interpretation.Interpretation.{Interpretation}
use Rattle.logic.specs.Interpretation.{nothing, same_in}
use Rattle.program.specs.Program.{Clause}
use Rattle.settle.specs.declared.settle.Settled.{Settled}
use Rattle.settle.specs.Step.{step, stepped}

unfoldable pub rounds : List Clause → ℕ → Interpretation
rounds p zero = nothing
rounds p (suc k) = step p (rounds p k)

abbrev pub unchanged : List Clause → ℕ → Bool
unchanged p k = same_in (rounds p k) (rounds p (suc k))

abbrev pub round_limit : ℕ
round_limit = 64

unfoldable pub round_count : List Clause → ℕ
round_count p = first round_limit (unchanged p)

abbrev pub decided_sum : List Clause → ℕ → ℕ
decided_sum p k = sum k (λ i. (stepped p (rounds p i)).decided)

unfoldable pub settled : List Clause → Settled
settled p = record {
  interpretation = rounds p (round_count p);
  rounds = round_count p;
  decided = decided_sum p (round_count p);
}
