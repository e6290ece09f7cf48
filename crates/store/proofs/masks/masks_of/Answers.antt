-- Answers to the goals of this function. Assumes nothing.
use borrow.Author.Rules.{rules}
use Rattle.store.proofs.MaskLaws.{passed_none, passed-more, passed-all}
use Rattle.store.proofs.MaskLaws.{literal-less}
use Rattle.store.proofs.masks.masks_of.Goals as goal

pub loop-negated-init : goal.loop-negated-init
loop-negated-init c = search (rules, passed_none)

pub returns-in_default : goal.returns-in_default
returns-in_default c = search (rules, passed-all)

pub loop-negated-smaller : goal.loop-negated-smaller
loop-negated-smaller c = search (rules, literal-less)

pub loop-negated-preserved : goal.loop-negated-preserved
loop-negated-preserved c = search (rules, passed-more)
