-- `form::store_observed` meets its contract: a bit of either word is a bit of both together. Assumes nothing.
use borrow.Author.Rules.{rules}
use Rattle.store.proofs.Rows.{observed_stored}
use Rattle.store.proofs.form.store_observed.Goals as goal

pub returns : goal.returns
returns c = observed_stored (search rules) (search rules) (search rules) (search rules)
