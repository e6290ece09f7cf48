-- The five lent tables as one value.
-- From: document 01, "Case tables and sound cases"; document 02, [7] (prices).
--
--   lent_of t       what the tables t hold
--   TablesOf t u    u are the tables t without names and prices
use Rattle.std.specs.Prelude.{◌≡◌}
use Rattle.program.specs.declared.tables.Tables.{Tables}
use Rattle.store.specs.Lent.{Lent, lent}
use Rattle.store.specs.declared.lent.LentTables.{LentTables}

abbrev pub lent_of : LentTables → Lent
lent_of t = lent t.clauses.now t.constraints.now t.formula.now t.names.now t.prices.now

pub record TablesOf (t : LentTables) (u : Tables) : Type 0 where
  pub clauses_are : u.clauses.now ≡ t.clauses.now
  pub constraints_are : u.constraints.now ≡ t.constraints.now
  pub formula-is : u.formula.now ≡ t.formula.now
