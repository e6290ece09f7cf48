-- The goals of `wording::cause_lines`: its loop keeps the invariant, and each way out gives what is promised.
-- Assumes nothing.
use borrow.Author.Rules.{rules}
use native.Mathlib.Omega.{arith}
use Rattle.wording.proofs.Listings.{line-start, line-room, line-more, line-end}
use Rattle.wording.proofs.cause_lines.Goals as goal

pub loop-setting-init : goal.loop-setting-init
loop-setting-init c = line-start _ _ _ _

pub cause_line-place-requires : goal.cause_line-place-requires
cause_line-place-requires c =
    (search rules, line-room _ c.loop-setting.invariant (omega arith) c.requires.1)

pub loop-setting-preserved : goal.loop-setting-preserved
loop-setting-preserved c = search line-more

pub returns : goal.returns
returns c = search line-end
