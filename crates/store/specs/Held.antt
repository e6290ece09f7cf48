-- Tables that hold what was read so far.
--
--   Long t           the tables t have their full sizes
--   Limits st        st is within the limits
--   InLimits c       the counts of the record c are within the limits
--   Held st c t      the record c and the tables t hold st
--   Kept t u         the tables u are t but for the entries within their sizes
use Rattle.std.specs.Prelude.{◌≡◌, ◌≤◌, length}
use Rattle.program.specs.declared.case.Case.{Case}
use Rattle.program.specs.Case.{clause_size, constraint_size, formula_size, name_size, price_size}
use Rattle.names.specs.Held.{AllNamed}
use Rattle.store.specs.Lent.{Lent, filled_with}
use Rattle.store.specs.Saying.{Said}
use Rattle.store.specs.Tables.{words_of, case_said}

-- the tables have their full sizes
pub record Long (t : Lent) : Type 0 where
  pub clauses-long : clause_size ≤ length t.clauses
  pub constraints-long : constraint_size ≤ length t.constraints
  pub formula-long : formula_size ≤ length t.formula
  pub names-long : name_size ≤ length t.names
  pub prices-long : price_size ≤ length t.prices

-- what was read is within the limits; a query names an atom
pub record Limits (st : Said) : Type 0 where
  pub clauses-few : length st.clauses ≤ 256
  pub constraints-few : length st.constraints ≤ 32
  pub queries-few : length st.queries ≤ 16
  pub query-atoms : 1 ≤ length st.queries → 1 ≤ length st.names

pub record InLimits (c : Case) : Type 0 where
  pub atoms-few : c.atoms ≤ 64
  pub clauses-few : c.clauses ≤ 256
  pub constraints-few : c.constraints ≤ 32
  pub formulas-few : c.formulas ≤ 16

-- the tables have the words of st and zeros in their sizes, whatever is behind them
pub record Held (st : Said) (c : Case) (t : Lent) : Type 0 where
  pub limits : Limits st
  pub case-is : c ≡ case_said st
  pub all_named : AllNamed st.names
  pub few-names : length st.names ≤ 64
  pub tables_are : t ≡ filled_with (words_of st) t

abbrev pub Kept : Lent → Lent → Type 0
Kept t u = u ≡ filled_with u t
