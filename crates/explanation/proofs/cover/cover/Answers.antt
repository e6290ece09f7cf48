-- The goals of `cover`: its loop keeps the invariant, and ends with the settings covered. Assumes nothing.
use mathlib.Core.Path.{◌≡◌, refl, sym, subst}
use mathlib.Core.List.{List}
use Prim.Native.Nat.{ℕ, ◌<◌}
use native.Mathlib.Omega.{arith}
use borrow.Author.Rules.{rules}
use lib.Bits.{or_lt}
use lib.ListN.{length, length-set}
use Rattle.explanation.proofs.Larger.{Stands, stands_start, stands_next, stands_less, stands_end}
use Rattle.explanation.proofs.cover.cover.Goals as goal

pub loop-word-init : goal.loop-word-init
loop-word-init c =
    let a = c.args in
    let size : length a.row.now ≡ 1848 = search rules in (
      simp length-set size,
      omega arith,
      λ r l q. subst
          (λ (u : List ℕ). Stands r a.b a.e a.causes a.weights.now a.added.now.facts a.added.now.assumptions u a.e)
          (sym q) (stands_start l),
    )

pub loop-word-smaller : goal.loop-word-smaller
loop-word-smaller c =
    let size : length c.args.row.now ≡ 1848 = search rules in
    let w : c.args.b < length c.args.row.now = omega (arith, size) in
    stands_less w (c.loop-word.invariant.2 c.args.row.now w refl) c.dropped-larger.ensures (omega arith) (omega arith)
    c.if-all-word.false

pub loop-word-preserved : goal.loop-word-preserved
loop-word-preserved c =
    let i = c.loop-word.invariant in (
      simp length-set i.0,
      or_lt 64 _ _ i.1 (omega arith),
      λ r l q. stands_next l (i.2 r l q) c.dropped-larger.ensures,
    )

pub returns : goal.returns
returns c =
    let size : length c.args.row.now ≡ 1848 = search rules in
    let w : c.args.b < length c.args.row.now = omega (arith, size) in
    stands_end w (c.loop-word.invariant.2 c.args.row.now w refl) c.dropped-larger.ensures size
    c.if-all-word.true
