-- A proof of each claim of specs/Claims.antt; each holds of every steady program whose heads are below n ≤ 64.
-- Assumes nothing.
use mathlib.Core.Path.{◌≡◌}
use mathlib.Core.Bool.{true}
use mathlib.Core.List.{List}
use Prim.Native.Nat.{ℕ, ◌^◌, ◌≤◌, ◌<◌}
use native.Mathlib.Omega.{arith}
use Rattle.logic.proofs.Interpretations.{same_in_refl}
use Rattle.logic.proofs.Decided.{decided-le}
use Rattle.program.specs.declared.case.Case.{Case}
use Rattle.program.specs.declared.cause.Additions.{Additions}
use Rattle.program.specs.Program.{Clause, program_with}
use Rattle.program.specs.Cause.{causes_of}
use Rattle.program.specs.Set.{SetOf}
use Rattle.program.specs.Sound.{sound}
use Rattle.program.proofs.Causes.{causes_of-lt}
use Rattle.program.proofs.Sets.{additions_set, set_facts_lt, set_assumptions_lt}
use Rattle.program.proofs.Soundness.{sound-atoms, sound-head}
use Rattle.settle.specs.Operation.{program_of}
use Rattle.settle.specs.Rounds.{rounds, round_count, settled}
use Rattle.settle.specs.Claims.{IsLeastModel, IsRoundCount, SetSettled, SettledLeastModel, RoundCountLeast}
use Rattle.settle.specs.Claims.{DecidedExact}
use Rattle.settle.proofs.Steady.{Steady, program-steady}
use Rattle.settle.proofs.Heads.{HeadsBelow, rounds-within, program-heads-below}
use Rattle.settle.proofs.Reached.{rounds_good, settled-decided}
use Rattle.settle.proofs.Settling.{settled-ended, changed-more}
use Rattle.settle.proofs.Models.{settled-least, least-unique}

module _ (n : ℕ) (p : List Clause) (m : n ≤ 64) (s : Steady p) (b : HeadsBelow n p) where
  pub steady-least_model : IsLeastModel n p (settled p).interpretation
  unfolding settled
  steady-least_model = record {
    least_model = settled-least n p s b m;
    only_one = λ w k. least-unique n p _ w (settled-least n p s b m) k;
    disjoint = (rounds_good p (round_count p)).disjoint;
    trues_within = (rounds-within n p b m (round_count p)).0;
    falses_within = (rounds-within n p b m (round_count p)).1;
  }

  rounds-few : round_count p ≤ n
  rounds-few =
      let k = round_count p in
      let w = rounds-within n p b m k in
      let d = decided-le n (rounds p k) w.0 w.1 (rounds_good p k).disjoint in
      omega (arith, (settled-ended p s).reached.few, d)

  pub steady_round_count : IsRoundCount n p (settled p).rounds
  unfolding settled rounds
  steady_round_count = record {
    unchanged-at = same_in_refl _ _ (settled-ended p s).fixed;
    changed-before = (settled-ended p s).reached.fresh;
    at_most = rounds-few;
    decides_more = λ j l. changed-more p s j ((settled-ended p s).reached.fresh j l);
  }

-- ---- a sound case and a set of its causes
module _ (c : Case) (cl co fo : List ℕ) (x : Additions)
    (h : sound c cl co fo ≡ true) (g : SetOf (causes_of c cl) x) where
  atoms-le : c.atoms ≤ 64
  atoms-le = (sound-atoms c cl co fo h).1

  causes_within : (causes_of c cl).all < 2 ^ c.atoms
  causes_within = causes_of-lt c cl atoms-le (sound-head c cl co fo h)

  set-steady : Steady (program_with cl c.clauses x)
  set-steady = program-steady cl c.clauses x

  set-heads-below : HeadsBelow c.atoms (program_with cl c.clauses x)
  set-heads-below =
      program-heads-below c.atoms cl c.clauses x (sound-head c cl co fo h)
      (set_facts_lt (causes_of c cl) c.atoms atoms-le causes_within x g)
      (set_assumptions_lt (causes_of c cl) c.atoms atoms-le causes_within x g)

pub set-settled : SetSettled
set-settled = record {
  to_least_model = λ c cl co fo x h g.
      steady-least_model c.atoms (program_with cl c.clauses x) (atoms-le c cl co fo x h g)
      (set-steady c cl co fo x h g) (set-heads-below c cl co fo x h g);
  in_least_rounds = λ c cl co fo x h g.
      steady_round_count c.atoms (program_with cl c.clauses x) (atoms-le c cl co fo x h g)
      (set-steady c cl co fo x h g) (set-heads-below c cl co fo x h g);
}

-- ---- a sound case and a setting
pub settled-least_model : SettledLeastModel
settled-least_model c cl co fo s h = set-settled.to_least_model c cl co fo _ h (additions_set (causes_of c cl) s)

pub round_count-least : RoundCountLeast
round_count-least c cl co fo s h = set-settled.in_least_rounds c cl co fo _ h (additions_set (causes_of c cl) s)

pub decided-exact : DecidedExact
decided-exact c cl co fo s h = settled-decided (program_of c cl s) (program-steady cl c.clauses _)
