-- `take::cost_atom` meets its contract: each return is one law of the line's form. Assumes nothing.
use borrow.Author.Rules.{rules}
use Rattle.checks.proofs.Costed.{name-onward, name-within, atom-found, atom-none}
use Rattle.checks.proofs.take.cost_atom.Goals as goal

pub slice_bounds-atom_of-end : goal.slice_bounds-atom_of-end
slice_bounds-atom_of-end c = search (rules, name-onward, name-within)

pub returns-in-Cost : goal.returns-in-Cost
returns-in-Cost c = search (rules, atom-found)

pub returns-in_default : goal.returns-in_default
returns-in_default c = atom-none c.requires.0 c.in_default.not-Cost
