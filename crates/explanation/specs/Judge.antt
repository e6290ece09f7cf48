-- What is known of each setting. The walk is defined over any judge and any list of choice counts.
-- From: document 01, "Causes, settings, explanations" ("Under a setting") and "The question"; document 02, [6] (the
-- decided atoms).
--
--   Judge      whether each setting explains, what settling answers for it, and the value of each of a number of
--              queries under it
--   judge_of   the judge of a case
use Rattle.std.specs.Prelude.{Bool, List, ℕ}
use Rattle.logic.specs.declared.value.Value.{Value}
use Rattle.logic.specs.Formula.{value_of}
use Rattle.logic.specs.Nodes.{formula_of}
use Rattle.program.specs.declared.case.Case.{Case}
use Rattle.program.specs.Case.{nodes_of}
use Rattle.program.specs.Cause.{causes_of}
use Rattle.program.specs.Setting.{additions_of}
use Rattle.settle.specs.Rounds.{settled}
use Rattle.settle.specs.Operation.{program_of}
use Rattle.explanation.specs.Explanation.{explains, settled_with}

-- value q s is that of query q under setting s
pub record Judge : Type 0 where
  pub explains : ℕ → Bool
  pub rounds : ℕ → ℕ
  pub decided : ℕ → ℕ
  pub queries : ℕ
  pub value : ℕ → ℕ → Value

abbrev pub judge_of : Case → List ℕ → List ℕ → List ℕ → Judge
judge_of c cl co fo = record {
  explains = λ s. explains c cl co s;
  rounds = λ s. (settled (program_of c cl s)).rounds;
  decided = λ s. (settled (program_of c cl s)).decided;
  queries = c.formulas;
  value = λ q s. value_of (settled_with c cl (additions_of (causes_of c cl) s)) (formula_of (nodes_of c.nodes fo q));
}
