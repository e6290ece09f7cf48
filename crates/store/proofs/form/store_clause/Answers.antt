-- `form::store_clause` meets its contract: the words of the clause stand behind those of the others. Assumes nothing.
use native.Mathlib.Omega.{arith}
use borrow.Author.Rules.{rules}
use Rattle.store.proofs.NodeLaws.{row-few}
use Rattle.store.proofs.Rows.{clause_put}
use Rattle.store.proofs.form.store_clause.Goals as goal

pub overflow_add-atom : goal.overflow_add-atom
overflow_add-atom c = omega (arith, row-few _ _ _ c.atom_of-atom.ensures)

pub returns : goal.returns
returns c = search (rules, clause_put)
