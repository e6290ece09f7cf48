-- `lines::edition_lines` meets its contract: a line where the edition is 2. Assumes nothing.
use mathlib.Core.Path.{◌≡◌}
use native.Mathlib.Omega.{arith}
use borrow.Author.Tests.{eq-eqb, ne_eqb}
use Rattle.writing.proofs.CaseTexts.{line_absent, line-room-there, line-there}
use Rattle.writing.proofs.lines.edition_lines.Goals as goal

pub returns-then-edition-ne2 : goal.returns-then-edition-ne2
returns-then-edition-ne2 c = line_absent _ (ne_eqb c.args.edition 2 (λ e. omega arith))

pub edition_line-requires : goal.edition_line-requires
edition_line-requires c =
    let e : c.args.edition ≡ 2 = omega arith in
    (omega arith, rw e (line-room-there _ (eq-eqb c.args.edition 2 e) c.requires))

pub returns : goal.returns
returns c =
    let e : c.args.edition ≡ 2 = omega arith in
    line-there _ (eq-eqb c.args.edition 2 e) (rw e at c.edition_line.ensures)
