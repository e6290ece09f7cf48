-- Answers to the goals of this function. Assumes nothing.
use Rattle.std.proofs.Common.{rules, arith, get_or, ◌≡◌}
use Rattle.text.proofs.TokenLaws.{passed-opening, passed-closing, passed_gap}
use Rattle.text.proofs.TokenLaws.{passed-end}
use Rattle.text.proofs.tokens.token.Goals as goal

pub returns-in-40 : goal.returns-in-40
returns-in-40 c = search (rules, passed-opening)

pub returns-in-41 : goal.returns-in-41
returns-in-41 c = search (rules, passed-closing)

pub loop-i-preserved : goal.loop-i-preserved
loop-i-preserved c =
    let o : get_or c.args.l.now c.loop-i.i 0 ≡ 40 → ⊥ = λ e. omega (arith, e) in
    let d : get_or c.args.l.now c.loop-i.i 0 ≡ 41 → ⊥ = λ e. omega (arith, e) in
    search (rules, passed_gap)

pub returns : goal.returns
returns c = search (rules, passed-end)
