-- What is claimed of settling beyond the functions' contracts: claims 1 and 2 of the design, and that the atoms newly
-- decided sum up to the decided ones. Proved in proofs/Theorems.antt.
-- From: document 01, "Interpretations and the step" and "Causes, settings, explanations" ("The least model of a set");
-- document 02, [6] ("the sum equals the decided atoms of the model").
use Rattle.std.specs.Prelude.{◌≡◌, true, false, List, ℕ, suc, ◌^◌, ◌≤◌, ◌<◌}
use Rattle.logic.specs.declared.value.Value.{Value}
use Rattle.logic.specs.declared.interpretation.Interpretation.{Interpretation}
use Rattle.logic.specs.Interpretation.{value_at, decided_in, Disjoint}
use Rattle.program.specs.declared.case.Case.{Case}
use Rattle.program.specs.declared.cause.Additions.{Additions}
use Rattle.program.specs.Program.{Clause, program_with}
use Rattle.program.specs.Cause.{causes_of}
use Rattle.program.specs.Set.{SetOf}
use Rattle.program.specs.Sound.{sound}
use Rattle.settle.specs.Rounds.{rounds, unchanged, settled}
use Rattle.settle.specs.Completion.{LeastModel}
use Rattle.settle.specs.Operation.{program_of}

-- i is the least model of the weak completion of p over n atoms, and the only one; its words are disjoint and within
-- the atoms
pub record IsLeastModel (n : ℕ) (p : List Clause) (i : Interpretation) : Type 0 where
  pub least_model : LeastModel n p (value_at i)
  pub only_one : (w : ℕ → Value) → LeastModel n p w → (a : ℕ) → w a ≡ value_at i a
  pub disjoint : Disjoint i
  pub trues_within : i.trues < 2 ^ n
  pub falses_within : i.falses < 2 ^ n

-- k is the least number for which k and k + 1 rounds give the same; it is at most n, and each round before it decides
-- one atom more at least
pub record IsRoundCount (n : ℕ) (p : List Clause) (k : ℕ) : Type 0 where
  pub unchanged-at : unchanged p k ≡ true
  pub changed-before : (j : ℕ) → j < k → unchanged p j ≡ false
  pub at_most : k ≤ n
  pub decides_more : (j : ℕ) → j < k → decided_in (rounds p j) < decided_in (rounds p (suc j))

-- claims 1 and 2: for every sound case and every set of its causes, those with both a fact and an assumption for one
-- cause included
pub record SetSettled : Type 0 where
  pub to_least_model : (c : Case) (cl co fo : List ℕ) (x : Additions) → sound c cl co fo ≡ true
      → SetOf (causes_of c cl) x → let p = program_with cl c.clauses x in
      IsLeastModel c.atoms p (settled p).interpretation
  pub in_least_rounds : (c : Case) (cl co fo : List ℕ) (x : Additions) → sound c cl co fo ≡ true
      → SetOf (causes_of c cl) x → let p = program_with cl c.clauses x in
      IsRoundCount c.atoms p (settled p).rounds

-- claim 1: for every sound case and setting
abbrev pub SettledLeastModel : Type 0
SettledLeastModel = (c : Case) (cl co fo : List ℕ) (s : ℕ) → sound c cl co fo ≡ true
    → IsLeastModel c.atoms (program_of c cl s) (settled (program_of c cl s)).interpretation

-- claim 2: for every sound case and setting
abbrev pub RoundCountLeast : Type 0
RoundCountLeast = (c : Case) (cl co fo : List ℕ) (s : ℕ) → sound c cl co fo ≡ true
    → IsRoundCount c.atoms (program_of c cl s) (settled (program_of c cl s)).rounds

-- when settling ends, the sum of the atoms newly decided is the number of decided atoms of the model: for every sound
-- case and setting
abbrev pub DecidedExact : Type 0
DecidedExact = (c : Case) (cl co fo : List ℕ) (s : ℕ) → sound c cl co fo ≡ true → let r = settled (program_of c cl s) in
    r.decided ≡ decided_in r.interpretation
