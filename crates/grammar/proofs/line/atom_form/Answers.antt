-- `line::atom_form` meets its contract: each return is one law of the words behind the line's word. Assumes nothing.
use Rattle.grammar.proofs.Atoms.{atom_unnamed, atom_found}
use Rattle.grammar.proofs.line.atom_form.Goals as goal

pub returns-in_err-a : goal.returns-in_err-a
returns-in_err-a c = rw c.from_residual.ensures (atom_unnamed c.args.l.now c.args.at c.in_err-a.ensures)

pub returns : goal.returns
returns c = rw c.then_some.ensures (atom_found c.in_ok-a.ensures c.ends_line.ensures)
