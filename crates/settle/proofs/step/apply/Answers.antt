-- The goals of `apply`: its loop keeps the invariant, and each way out gives what is promised. Assumes nothing.
use mathlib.Core.Path.{refl, ap, ap₂, ◌∙◌}
use Prim.Native.Nat.{ℕ, ◌^◌, ◌<◌}
use native.Mathlib.Omega.{arith}
use Rattle.logic.specs.Interpretation.{value_at}
use Rattle.program.specs.Case.{head_at}
use Rattle.program.specs.Program.{clause_at}
use Rattle.settle.proofs.Passes.{start, start-disjoint, raised, raised-disjoint}
use Rattle.settle.proofs.Passes.{walked, walked_more, walked_step, walked-stepped}
use Rattle.settle.proofs.step.apply.Goals as goal

pub loop-k-init : goal.loop-k-init
unfolding walked
loop-k-init c =
    let a = c.args in
    let hf : a.added.facts < 2 ^ 64 = omega arith in
    (rw (start-disjoint a.added.facts) refl, refl)

pub loop-k-preserved : goal.loop-k-preserved
unfolding clause_at
loop-k-preserved c =
    let k = c.loop-k.k in
    let cl = c.args.clauses.words.now in
    let e = c.at-clause.ensures in
    let v = rw (e.kind-is, e.plain-is, e.negated-is) at c.body_value.ensures in
    let next = rw e.head-is at c.raise-next.ensures in (
      raised-disjoint _ c.loop-k.next (head_at cl k) c.body_value.result next,
      next ∙ ap (raised c.loop-k.next (head_at cl k)) v
          ∙ walked_more (value_at c.args.i) cl c.loop-k.next _ k c.loop-k.invariant.1,
    )

pub returns : goal.returns
returns c =
    let a = c.args in
    let hf : a.added.facts < 2 ^ 64 = omega arith in
    let hs : a.added.assumptions < 2 ^ 64 = omega arith in
    let last = c.loop-k.invariant.1
    ∙ ap₂ (λ (h m : ℕ). walked (value_at a.i) a.clauses.words.now (start h a.added) m) c.requires.1
    (omega arith)
    ∙ walked_step a.i a.clauses.words.now a.clauses.count a.added hf hs in
    walked-stepped a.i a.clauses.words.now a.clauses.count a.added hf hs last c.newly_decided-decided.ensures
