-- In reading order.
-- Lent: the five lent tables; LentTables: as one value.
-- Prices: what cost lines say.
-- Saying: what a file says so far: names, clauses, constraints, observed literals, queries, costs, editions.
-- Tables: the record and the words that hold what was read.
-- Held: tables that hold what was read so far.
-- Masks, Nodes: the atoms of literals and the nodes of a formula, by a lookup of names.
-- Stored: what storing a form of a line leaves.
pub mod Lent
pub mod LentTables
pub mod Prices
pub mod Saying
pub mod Tables
pub mod Held
pub mod Masks
pub mod Nodes
pub mod Stored
