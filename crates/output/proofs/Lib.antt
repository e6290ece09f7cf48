-- The laws of this crate, in reading order. Assumes nothing.
-- Laying: what writing to a lent output leaves in it.
-- Showing: what an operation that writes a text answers and leaves in the output.
-- FormTexts: forms and lines.
-- Decimals: numbers in decimal.
-- Digits: a number that is written in decimal.
-- Names: the name in a row of a names table.
-- Theorems: a proof of each claim.
pub mod Laying
pub mod Showing
pub mod FormTexts
pub mod Decimals
pub mod Digits
pub mod Names
pub mod Theorems
