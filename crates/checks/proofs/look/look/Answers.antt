-- `look::look` meets its contract: a law for each way out. Assumes nothing.
use borrow.Author.Rules.{rules}
use mathlib.Core.Path.{sym, ◌∙◌}
use Rattle.words.proofs.Tests.{failed}
use Rattle.checks.proofs.Looking.{looked_comment, looked-long, looked-bytes, looked_no_form, looked-form}
use Rattle.checks.proofs.look.look.Goals as goal

pub returns-then-is_comment : goal.returns-then-is_comment
returns-then-is_comment c = search (rules, looked_comment)

pub returns-then-l-gt200 : goal.returns-then-l-gt200
returns-then-l-gt200 c = search (rules, looked-long)

pub returns-then-not-all_allowed : goal.returns-then-not-all_allowed
returns-then-not-all_allowed c = search (rules, looked-bytes, failed)

pub returns-in-Some : goal.returns-in-Some
returns-in-Some c =
    looked-form c.is_comment.ensures c.if-is_comment.false c.if-l-gt200.false
    (sym c.all_allowed.ensures ∙ c.if-not-all_allowed.false) c.in-Some.ensures

pub returns-in-None : goal.returns-in-None
returns-in-None c =
    looked_no_form c.is_comment.ensures c.if-is_comment.false c.if-l-gt200.false
    (sym c.all_allowed.ensures ∙ c.if-not-all_allowed.false) c.in-None.ensures
