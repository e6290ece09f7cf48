-- The goals of `names::find`: its loop keeps the invariant, and each way out gives what is promised. Assumes nothing.
use mathlib.Core.Path.{sym}
use denote.Enum.Bare.{same_true, same_false}
use borrow.Author.Rules.{rules}
use Rattle.names.specs.contracts.compare.Compared.{the_type}
use Rattle.names.proofs.Search.{searched_none, searched_all, compared_here, compared_more, front_is}
use Rattle.names.proofs.find.Goals as goal

pub loop-i-init : goal.loop-i-init
loop-i-init c = searched_none _ _ _

pub returns-then-eq-clause-first_row : goal.returns-then-eq-clause-first_row
returns-then-eq-clause-first_row c =
    let same = same_true the_type (search rules) _ _ (sym c.if-eq.ensures) in
    compared_here c.loop-i.invariant c.loop-i-test.true (front_is _ c.min.ensures) c.compare.ensures same

pub loop-i-preserved : goal.loop-i-preserved
loop-i-preserved c =
    let other = same_false the_type _ _ (sym c.if-eq.ensures) in
    compared_more c.loop-i.invariant c.loop-i-test.true (front_is _ c.min.ensures) c.compare.ensures other

pub returns-clause-first_row : goal.returns-clause-first_row
returns-clause-first_row c = searched_all c.loop-i.invariant c.loop-i-test.false
