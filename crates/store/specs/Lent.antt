-- The five tables lent to reading.
-- From: document 01, "Case tables and sound cases"; document 02, [7] (prices).
--
--   lent cl co fo na pr   the tables of clauses, constraints, nodes, names and prices
--   filled_with w t       each table of t, in its size, filled with that of w
use Rattle.std.specs.Prelude.{List, ℕ}
use Rattle.program.specs.Case.{clause_size, constraint_size, formula_size, name_size, price_size}
use Rattle.table.specs.Filled.{filled}

pub record Lent : Type 0 where
  pub clauses : List ℕ
  pub constraints : List ℕ
  pub formula : List ℕ
  pub names : List ℕ
  pub prices : List ℕ

abbrev pub lent : List ℕ → List ℕ → List ℕ → List ℕ → List ℕ → Lent
lent cl co fo na pr = record { clauses = cl; constraints = co; formula = fo; names = na; prices = pr }

abbrev pub filled_with : Lent → Lent → Lent
filled_with w t =
    lent (filled clause_size w.clauses t.clauses) (filled constraint_size w.constraints t.constraints)
    (filled formula_size w.formula t.formula) (filled name_size w.names t.names)
    (filled price_size w.prices t.prices)
