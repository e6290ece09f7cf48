-- `ask` meets its contract: each refusal is the one that is due, and without one the walk answers.
-- Assumes nothing.
use mathlib.Core.Path.{◌≡◌, refl, sym, ap, ◌∙◌}
use mathlib.Core.Bool.{true}
use mathlib.Core.List.{List}
use Prim.Native.Nat.{ℕ, ◌≤◌, ◌<◌, min}
use native.Mathlib.Omega.{arith}
use lib.ListN.{length}
use Rattle.std.proofs.lemmas.Result.{err_from_is_err_and}
use Rattle.refusals.specs.declared.Refusal.{Refusal}
use Rattle.program.specs.Case.{price_size}
use Rattle.program.specs.declared.case.Case.{Case}
use Rattle.program.specs.declared.cause.Causes.{Causes}
use Rattle.program.specs.Cause.{causes_of}
use Rattle.program.specs.Setting.{settings_of}
use Rattle.program.specs.Sound.{sound}
use Rattle.program.proofs.Causes.{causes-of}
use Rattle.program.proofs.Counting.{capped_is}
use Rattle.program.proofs.Soundness.{clauses-held, sound-limits, sound-formulas, sound-settings}
use Rattle.settle.proofs.Asking.{accepted}
use Rattle.question.specs.Operation.{settings_in}
use Rattle.question.proofs.Answers.{lent-full, refusal_unpriced, refusal_first, refusal-small, refusal-none}
use Rattle.question.proofs.Answers.{cost_told, asked-refused, asked-walked}
use Rattle.question.proofs.operation.ask.Goals as goal
use Rattle.question.proofs.operation.ask.Goals.{in-Some, in-None}

-- the settings of a sound case, counted up to 59,050, are all
all-settings : (k : Case) (cl co fo : List ℕ) → sound k cl co fo ≡ true → {i : Causes} → i ≡ causes_of k cl
    → {n : ℕ} → n ≡ min (settings_of i) 59050 → n ≡ settings_in k cl
all-settings k cl co fo s e q =
    capped_is _ _ (sound-settings k cl co fo s) (q ∙ ap (λ (i : Causes). min (settings_of i) 59050) e)

pub returns-then-prices-lt-PRICES : goal.returns-then-prices-lt-PRICES
returns-then-prices-lt-PRICES c =
    let few : length c.args.prices.now < price_size = omega arith in
    asked-refused _ _ _ _ _ _ _ Refusal.ShortTable (sym (refusal_unpriced _ _ _ _ _ _ few))

pub returns-in_err-check_case : goal.returns-in_err-check_case
returns-in_err-check_case c =
    let p = err_from_is_err_and c.from_residual.result c.from_residual.ensures.1 in
    let enough : price_size ≤ length c.args.prices.now = omega arith in
    let due = refusal_first _ _ _ _ _ _ enough (sym c.check_case.ensures ∙ c.in_err-check_case.was) in
    rw (p.1, p.2) (asked-refused _ _ _ _ _ _ _ _ due)

pub invariant_of-clauses : goal.invariant_of-clauses
invariant_of-clauses c =
    let e = accepted _ _ _ (sym c.check_case.ensures ∙ c.in_ok-check_case.was) in
    let held = clauses-held _ _ _ _ e.0 (sound-limits _ _ _ _ e.1) in
    record { few = held.2; held = held.3 }

pub causes_in-causes-requires : goal.causes_in-causes-requires
causes_in-causes-requires c =
    let e = accepted _ _ _ (sym c.check_case.ensures ∙ c.in_ok-check_case.was) in
    let held = clauses-held _ _ _ _ e.0 (sound-limits _ _ _ _ e.1) in
    (held.0, held.1, c.heads-heads.ensures)

pub returns-then-work-end : goal.returns-then-work-end
returns-then-work-end c =
    let a = c.args in
    let e = accepted _ _ _ (sym c.check_case.ensures ∙ c.in_ok-check_case.was) in
    let full = lent-full a.t.clauses.now a.t.constraints.now a.t.formula.now a.prices.now e.0 (omega arith) in
    let causes = c.causes_in-causes.ensures ∙ sym (causes-of _ _) in
    let settings = all-settings _ _ _ _ e.1 causes c.settings-end.ensures in
    let small : length a.work.now < settings_in a.c a.t.clauses.now = omega (arith, settings) in
    asked-refused _ _ _ _ _ _ _ Refusal.ShortWork (sym (refusal-small _ _ _ _ _ _ full e.1 small))

pub walk-tally-requires : goal.walk-tally-requires
walk-tally-requires c =
    let e = accepted _ _ _ (sym c.check_case.ensures ∙ c.in_ok-check_case.was) in
    let causes = c.causes_in-causes.ensures ∙ sym (causes-of _ _) in
    let settings = all-settings _ _ _ _ e.1 causes c.settings-end.ensures in (
      record { is-sound = e.1; heads_are = c.heads-heads.ensures; causes_are = causes },
      settings,
      omega arith,
      omega arith,
    )

pub verdicts-requires : goal.verdicts-requires
verdicts-requires c =
    (sound-formulas _ _ _ _ (accepted _ _ _ (sym c.check_case.ensures ∙ c.in_ok-check_case.was)).1).1

pub returns : goal.returns
returns c =
    let a = c.args in
    let e = accepted _ _ _ (sym c.check_case.ensures ∙ c.in_ok-check_case.was) in
    let full = lent-full a.t.clauses.now a.t.constraints.now a.t.formula.now a.prices.now e.0 (omega arith) in
    let causes = c.causes_in-causes.ensures ∙ sym (causes-of _ _) in
    let settings = all-settings _ _ _ _ e.1 causes c.settings-end.ensures in
    let enough : settings_in a.c a.t.clauses.now ≤ length a.work.now = omega (arith, settings) in
    let cost : c.match-tally.cost ≡ cost_told c.walk-tally.result.cheapest =
    elim c.match-tally.branch [
      | in-Some w ↦ rw (w.cost-is, w.in-Some.is) refl
      | in-None w ↦ rw (w.cost-is, w.in-None.is) refl
    ]
    in
    asked-walked _ _ _ _ _ _ _ (refusal-none _ _ _ _ _ _ full e.1 enough) settings c.walk-tally.ensures
    c.verdicts.ensures cost
