-- `line::edition_form` meets its contract: each return is one law of the words behind the line's word. Assumes nothing.
use Rattle.std.proofs.Common.{sym, ◌∙◌, arith}
use Rattle.grammar.proofs.Editions.{edition_wordless, edition-unended, edition-long, edition-other, edition-first}
use Rattle.grammar.proofs.Editions.{edition-second}
use Rattle.grammar.proofs.line.edition_form.Goals as goal

pub returns-in_err-a : goal.returns-in_err-a
returns-in_err-a c = rw c.from_residual.ensures (edition_wordless c.args.l.now c.args.at c.in_err-a.ensures)

pub returns-then-not-ends_line : goal.returns-then-not-ends_line
returns-then-not-ends_line c = edition-unended c.in_ok-a.ensures (sym c.ends_line.ensures ∙ c.if-not-ends_line.true)

pub returns-in-49 : goal.returns-in-49
returns-in-49 c =
    let ended = sym c.ends_line.ensures ∙ c.if-not-ends_line.false in
    edition-first c.in_ok-a.ensures ended (omega arith) (omega arith)

pub returns-in-50 : goal.returns-in-50
returns-in-50 c =
    let ended = sym c.ends_line.ensures ∙ c.if-not-ends_line.false in
    edition-second c.in_ok-a.ensures ended (omega arith) (omega arith)

pub returns-in_default-2 : goal.returns-in_default-2
returns-in_default-2 c = edition-other c.in_ok-a.ensures (λ z. omega (arith, z)) (λ z. omega (arith, z))

pub returns-in_default-3 : goal.returns-in_default-3
returns-in_default-3 c = edition-long c.in_ok-a.ensures (λ z. omega (arith, z))
