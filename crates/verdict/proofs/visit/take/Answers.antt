-- `take` meets its contract: a setting that doesn't explain or isn't minimal is marked and passed, a minimal one is
-- marked, counted and put into the list. Assumes nothing.
use mathlib.Core.Path.{sym, ◌∙◌}
use Rattle.verdict.proofs.Taking.{room-taken, take-other, take_larger, take-minimal}
use Rattle.verdict.proofs.visit.take.Goals as goal

pub returns-then-not-explains-clause-visited : goal.returns-then-not-explains-clause-visited
returns-then-not-explains-clause-visited c =
    λ J cs list₀ work₀ t l v. take-other v c.requires.2 t (sym c.test-explains.ensures ∙ c.if-not-explains.true)

pub returns-then-larger-clause-visited : goal.returns-then-larger-clause-visited
returns-then-larger-clause-visited c =
    λ J cs list₀ work₀ t l v.
    take_larger v c.requires.2 t l (sym c.test-explains.ensures ∙ c.if-not-explains.false)
    (sym c.test-larger.ensures ∙ c.if-larger.true)

pub returns-clause-visited : goal.returns-clause-visited
returns-clause-visited c =
    λ J cs list₀ work₀ t l v.
    take-minimal v c.requires.2 t l (sym c.test-explains.ensures ∙ c.if-not-explains.false)
    (sym c.test-larger.ensures ∙ c.if-larger.false) c.hold.ensures c.put.ensures.0 c.put.ensures.1

pub returns-clause-room : goal.returns-clause-room
returns-clause-room c = room-taken c.requires.3 _ c.hold.ensures c.put.ensures.0 c.put.ensures.1
