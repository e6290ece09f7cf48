-- `line::ends_line` meets its contract: each return is one law of the tokens that are left. Assumes nothing.
use Rattle.std.proofs.Common.{rules}
use Rattle.grammar.proofs.Forms.{ends-unclosed, ends_more, ends_last}
use Rattle.grammar.proofs.line.ends_line.Goals as goal

pub returns-in-None : goal.returns-in-None
returns-in-None c = ends-unclosed c.args.l.now c.args.at c.in-None.ensures

pub returns-in-End : goal.returns-in-End
returns-in-End c = search (rules, ends_last)

pub returns-in_default : goal.returns-in_default
returns-in_default c = search (rules, ends_more)
