-- The goals of `program::cause::Additions::next`: its loop keeps the invariant, and each way out gives what is
-- promised.
-- Assumes nothing.
use mathlib.Core.Path.{sym, ◌∙◌}
use Rattle.program.proofs.NextSetting.{carried_start, carried_end}
use Rattle.program.proofs.NextSetting.{carried_one, carried_two, carried_fact, carried_nothing}
use Rattle.program.proofs.cause.Additions.next.Goals as goal

pub loop-atom-init : goal.loop-atom-init
loop-atom-init c =
    rw (c.into_iter-atom-iterator.ensures.into_iter_gives, c.bits_of-atom-items.ensures)
    (λ s e. carried_start _ _ s _ e)

pub returns-then-not-test : goal.returns-then-not-test
returns-then-not-test c =
    rw (c.without.ensures, c.single.ensures)
    (λ s e. carried_fact _ _ s _ _ _ (c.loop-atom.invariant s e) c.in-Some.ensures.steps.0
    (sym c.test-then-test.ensures ∙ c.if-not-test.true) (sym c.test.ensures ∙ c.if-test.true))

pub loop-atom-preserved-else-not-test : goal.loop-atom-preserved-else-not-test
loop-atom-preserved-else-not-test c =
    let l = c.in-Some.ensures.steps in
    rw (l.1, c.without.ensures)
    (λ s e. carried_one _ _ s _ _ _ (c.loop-atom.invariant s e) l.0
    (sym c.test-then-test.ensures ∙ c.if-not-test.false) (sym c.test.ensures ∙ c.if-test.true))

pub loop-atom-preserved : goal.loop-atom-preserved
loop-atom-preserved c =
    let l = c.in-Some.ensures.steps in
    rw (l.1, c.without-then-test-2.ensures)
    (λ s e. carried_two _ _ s _ _ _ (c.loop-atom.invariant s e) l.0
    (sym c.test-else-test.ensures ∙ c.if-test-2.true))

pub returns-else-test-2 : goal.returns-else-test-2
returns-else-test-2 c =
    rw c.single-else-test-2.ensures
    (λ s e. carried_nothing _ _ s _ _ _ (c.loop-atom.invariant s e) c.in-Some.ensures.steps.0
    (sym c.test.ensures ∙ c.if-test.false) (sym c.test-else-test.ensures ∙ c.if-test-2.false))

pub returns : goal.returns
returns c = λ s e. carried_end _ _ s _ _ c.in-None.ensures.steps.0 (c.loop-atom.invariant s e)
