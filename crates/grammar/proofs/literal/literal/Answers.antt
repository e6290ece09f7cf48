-- `literal::literal` meets its contract: each return is one law of the tokens of a body. Assumes nothing.
use Rattle.std.proofs.Common.{rules}
use Rattle.grammar.proofs.Literals.{literal-end, literal_found, literal-opened, literal-more, literal-last}
use Rattle.grammar.proofs.literal.literal.Goals as goal

pub returns-in-End : goal.returns-in-End
returns-in-End c = search (rules, literal-end)

pub returns-in-Word : goal.returns-in-Word
returns-in-Word c = rw c.then_some.ensures (literal_found c.token.ensures c.in-Word.is c.is_name.ensures)

pub returns-in-Open : goal.returns-in-Open
returns-in-Open c = search (rules, literal-opened)

pub returns-in-End-token : goal.returns-in-End-token
returns-in-End-token c = search (rules, literal-last)

pub returns-in_default : goal.returns-in_default
returns-in_default c = literal-more c.token.ensures c.in-Close.is c.token-in-Close.ensures c.in_default.not-End
