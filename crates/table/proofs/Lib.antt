-- The laws of this crate, a file for each notion. Assumes nothing.
-- Filled: laws of filled and padded.
-- Kept: tables of which only the first entries change.
-- Zeroing: a loop that zeroes a table's first entries.
-- Stores: laws of stores one by one, for the loops that fill a table.
-- Rows: tables with a row of words for each entry of a list.
pub mod Filled
pub mod Kept
pub mod Zeroing
pub mod Stores
pub mod Rows
