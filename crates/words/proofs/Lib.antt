-- Tests: Bools as tests: cases on an order, implications.
-- Checks: laws of `first_failed`.
-- Below: laws of `any`, `every` and `first`.
-- Bits: laws of `has` and of the machine's operations on bits, for every bit number and width.
-- Words: a number as the word of its bits.
-- BitWalks: a word without one of its bits, and what a walk over the bits goes by.
-- Gathering: the word of the numbers that pass a test, gathered bit by bit.
-- LowestBit: a word and the number one less.
-- Sums: sums over numbers, and the count of a word's bits as one.
-- Counts: how the count of ones grows with the word.
-- Lists: a list by its entries.
pub mod Tests
pub mod Checks
pub mod Below
pub mod Bits
pub mod Words
pub mod BitWalks
pub mod Gathering
pub mod LowestBit
pub mod Sums
pub mod Counts
pub mod Lists
