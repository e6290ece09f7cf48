-- The laws of this crate, a file for each notion.
-- FilledLent: the five tables filled in their sizes.
-- Prices: prices, and their table.
-- Saying: what a line says.
-- KeptTables: their lengths, and tables that hold nothing.
-- Formulas: the atoms of a formula, and the nodes of a form.
-- Encoded: formulas by a lookup of names.
-- Literals: the words of literals.
-- BodySizes: the atoms of literals are at most as many as the literals.
-- Lookups: lookups that agree.
-- MaskLaws: the atoms of literals, added one after the other.
-- NodeLaws: the nodes of formulas, in a line and in a table.
-- Rows: the rows of clauses, constraints and queries in the words of a table.
-- FilledRows: the rows of filled tables.
-- Held: tables that hold what was read with one row, reading, query, cost or name more.
-- Stored: what storing a form of a line leaves, for each kind of line.
pub mod FilledLent
pub mod Prices
pub mod Saying
pub mod KeptTables
pub mod Formulas
pub mod Encoded
pub mod Literals
pub mod BodySizes
pub mod Lookups
pub mod MaskLaws
pub mod NodeLaws
pub mod Rows
pub mod FilledRows
pub mod Held
pub mod Stored
