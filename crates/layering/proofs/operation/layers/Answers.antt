-- `layers` meets its contract: each refusal is the one that is due, and without one the callees' contracts compose.
-- Assumes nothing.
use mathlib.Core.Path.{sym, ◌∙◌}
use Rattle.std.proofs.lemmas.Result.{err_from_is_err_and}
use Rattle.program.proofs.Soundness.{clauses-held, sound-atoms, sound-limits}
use Rattle.settle.proofs.Asking.{accepted}
use Rattle.layering.proofs.Answers.{refusal_first, refusal-none, answer-numbers, numbered-stuck, answer-ring}
use Rattle.layering.proofs.operation.layers.Goals as goal

pub returns-in_err-check_case : goal.returns-in_err-check_case
returns-in_err-check_case c =
    let p = err_from_is_err_and c.from_residual.result c.from_residual.ensures.1 in
    let due = refusal_first _ _ _ _ _ (sym c.check_case.ensures ∙ c.in_err-check_case.was) in
    rw (p.1, p.2) record { refusal_is = due; answered = tt }

pub invariant_of-clauses : goal.invariant_of-clauses
invariant_of-clauses c =
    let e = accepted _ _ _ (sym c.check_case.ensures ∙ c.in_ok-check_case.was) in
    let held = clauses-held _ _ _ _ e.0 (sound-limits _ _ _ _ e.1) in
    record { few = held.2; held = held.3 }

pub number-stuck-requires : goal.number-stuck-requires
number-stuck-requires c =
    sound-atoms _ _ _ _ (accepted _ _ _ (sym c.check_case.ensures ∙ c.in_ok-check_case.was)).1

pub ring-requires : goal.ring-requires
ring-requires c =
    let e = accepted _ _ _ (sym c.check_case.ensures ∙ c.in_ok-check_case.was) in
    let few = (sound-atoms _ _ _ _ e.1).1 in
    (numbered-stuck c.args.c _ few _ c.fill-dependents.ensures c.number-stuck.ensures, c.if-stuck-ne0.true)

pub returns-then-stuck-ne0 : goal.returns-then-stuck-ne0
returns-then-stuck-ne0 c =
    let e = accepted _ _ _ (sym c.check_case.ensures ∙ c.in_ok-check_case.was) in
    let few = (sound-atoms _ _ _ _ e.1).1 in
    record {
      refusal_is = sym (refusal-none _ _ _ _ e);
      answered = answer-ring c.args.c _ few _ c.fill-dependents.ensures c.number-stuck.ensures c.if-stuck-ne0.true
          c.ring.ensures;
    }

pub returns : goal.returns
returns c =
    let e = accepted _ _ _ (sym c.check_case.ensures ∙ c.in_ok-check_case.was) in
    let few = (sound-atoms _ _ _ _ e.1).1 in
    record {
      refusal_is = sym (refusal-none _ _ _ _ e);
      answered = answer-numbers c.args.c _ few _ c.fill-dependents.ensures c.number-stuck.ensures c.if-stuck-ne0.false;
    }
