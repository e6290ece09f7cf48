-- The laws of this crate, a file for each notion. Assumes nothing.
-- Distinct: names that differ from each other.
-- Adding: names added to names: which are found, and that they differ.
-- Short: names that are not long.
-- Rows: the rows of names.
-- RowNames: the name in a row of a table.
-- Compared: a word compared with an entry.
-- Held: a table that holds names.
-- Outcomes: the outcome of comparing a word with an entry.
-- Search: the search for the row of a name.
-- Interning: names put into the rows of a table.
-- LineNames: the loops over the names of a line.
-- Theorems: what is claimed.
pub mod Distinct
pub mod Adding
pub mod Short
pub mod Rows
pub mod RowNames
pub mod Compared
pub mod Held
pub mod Outcomes
pub mod Search
pub mod Interning
pub mod LineNames
pub mod Theorems
