-- `settle_one` meets its contract: each refusal is the one that is due, and without one the callees' contracts compose.
-- Assumes nothing.
use mathlib.Core.Path.{sym, ap, ◌∙◌}
use Prim.Native.Nat.{◌≤◌, ◌<◌}
use native.Mathlib.Omega.{arith}
use Rattle.std.proofs.lemmas.Result.{err_from_is_err_and}
use Rattle.program.specs.declared.cause.Additions.{Additions}
use Rattle.program.specs.Program.{program_with}
use Rattle.program.specs.declared.cause.Causes.{Causes}
use Rattle.program.specs.Cause.{causes_of}
use Rattle.program.specs.Setting.{settings_of, additions_of}
use Rattle.program.proofs.Causes.{causes-of}
use Rattle.program.proofs.Soundness.{clauses-held, sound-limits}
use Rattle.settle.specs.Rounds.{settled}
use Rattle.settle.proofs.Asking.{accepted}
use Rattle.settle.proofs.Answers.{refusal_first, refusal-past, refusal-none, settings_counted}
use Rattle.settle.proofs.operation.settle_one.Goals as goal

pub returns-in_err-check_case : goal.returns-in_err-check_case
returns-in_err-check_case c =
    let p = err_from_is_err_and c.from_residual.result c.from_residual.ensures.1 in
    let due = refusal_first _ _ _ _ _ _ (sym c.check_case.ensures ∙ c.in_err-check_case.was) in
    rw (p.1, p.2) record { refusal_is = due; settled_is = tt }

pub invariant_of-clauses : goal.invariant_of-clauses
invariant_of-clauses c =
    let e = accepted _ _ _ (sym c.check_case.ensures ∙ c.in_ok-check_case.was) in
    let held = clauses-held _ _ _ _ e.0 (sound-limits _ _ _ _ e.1) in
    record { few = held.2; held = held.3 }

pub causes_in-causes-requires : goal.causes_in-causes-requires
causes_in-causes-requires c =
    let e = accepted _ _ _ (sym c.check_case.ensures ∙ c.in_ok-check_case.was) in
    let held = clauses-held _ _ _ _ e.0 (sound-limits _ _ _ _ e.1) in
    (held.0, held.1, c.heads-heads.ensures)

pub returns-then-settings-setting : goal.returns-then-settings-setting
returns-then-settings-setting c =
    let a = c.args in
    let e = accepted _ _ _ (sym c.check_case.ensures ∙ c.in_ok-check_case.was) in
    let counted = settings_counted a.c _ _ _ a.setting e c.causes_in-causes.ensures c.settings.ensures in
    let past : settings_of (causes_of a.c a.t.clauses.now) ≤ a.setting = omega (arith, counted) in
    record { refusal_is = sym (refusal-past _ _ _ _ _ e past); settled_is = tt }

pub returns : goal.returns
returns c =
    let a = c.args in
    let e = accepted _ _ _ (sym c.check_case.ensures ∙ c.in_ok-check_case.was) in
    let counted = settings_counted a.c _ _ _ a.setting e c.causes_in-causes.ensures c.settings.ensures in
    let below : a.setting < settings_of (causes_of a.c a.t.clauses.now) = omega (arith, counted) in
    let causes = c.causes_in-causes.ensures ∙ sym (causes-of a.c a.t.clauses.now) in
    let added = c.added-added.ensures ∙ ap (λ (w : Causes). additions_of w a.setting) causes in
    record {
      refusal_is = sym (refusal-none _ _ _ _ _ e below);
      settled_is = c.run.ensures
          ∙ ap (λ (x : Additions). settled (program_with a.t.clauses.now a.c.clauses x)) added;
    }
