-- `form::store_query` meets its contract: the rest of the table behind the parts in use is lent, and is back with the
-- nodes in its first part. Assumes nothing.
use borrow.Author.Rules.{rules}
use Rattle.store.proofs.NodeLaws.{query_stored_back}
use Rattle.store.proofs.form.store_query.Goals as goal

pub returns : goal.returns
returns c = search (rules, query_stored_back)
