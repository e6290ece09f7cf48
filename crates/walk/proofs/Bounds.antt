-- Bounds of a sound case: how many rounds settling a setting takes and atoms it decides, and how long its tables are.
-- Assumes nothing.
use mathlib.Core.Path.{◌≡◌}
use mathlib.Core.Bool.{true}
use mathlib.Core.List.{List}
use Prim.Native.Nat.{ℕ, ◌*◌, ◌≤◌}
use native.Mathlib.Omega.{arith}
use lib.ListN.{length}
use Rattle.program.specs.declared.case.Case.{Case}
use Rattle.program.specs.Case.{constraint_size, formula_size}
use Rattle.program.specs.Sound.{sound}
use Rattle.program.proofs.Soundness.{full-clauses, full-constraints, full-formula, sound-full}
use Rattle.program.proofs.Soundness.{sound-atoms, sound-clauses, sound-constraints}
use Rattle.settle.specs.Rounds.{settled}
use Rattle.settle.specs.Operation.{program_of}
use Rattle.settle.proofs.Reached.{good_decided, settled_good}
use Rattle.settle.proofs.Theorems.{round_count-least, decided-exact}
use Rattle.explanation.specs.Judge.{judge_of}

module _ (c : Case) (cl co fo : List ℕ) (h : sound c cl co fo ≡ true) where
  pub rounds-few : (s : ℕ) → (judge_of c cl co fo).rounds s ≤ 64
  rounds-few s = omega (arith, (round_count-least c cl co fo s h).at_most, (sound-atoms c cl co fo h).1)

  pub decided-few : (s : ℕ) → (judge_of c cl co fo).decided s ≤ 64
  decided-few s =
      let p = program_of c cl s in
      omega (arith, decided-exact c cl co fo s h, good_decided (settled p).interpretation (settled_good p))

  pub clauses_fit : (c.clauses ≤ 256) × (3 * c.clauses ≤ length cl)
  clauses_fit =
      let l = sound-clauses c cl co fo h in
      let f = full-clauses cl co fo (sound-full c cl co fo h) in
      (l, omega arith)

  pub constraints_fit : (c.constraints ≤ 32) × (constraint_size ≤ length co)
  constraints_fit = (sound-constraints c cl co fo h, full-constraints cl co fo (sound-full c cl co fo h))

  pub formula-fits : formula_size ≤ length fo
  formula-fits = full-formula cl co fo (sound-full c cl co fo h)
