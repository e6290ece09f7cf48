-- Explaining: which lanes explain, the constraints one by one.
-- Subsets: subsets of a setting, proper ones, and some proper one that passes a test.
-- SubsetDigits: the digits of a subset, and what it adds.
-- Minimal: minimal explanations.
-- Covering: a proper subset explains exactly where a setting with one digit dropped is covered.
-- Dropping: the settings with one digit dropped, by the weights of the causes.
-- Weighing: the table of the weights, as a walk over the causes fills it.
-- Shifting: shifted words, and 64 bits out of two words.
-- Rows: 64 bits of the row of covered settings, and the lanes in which one digit dropped leads to a bit.
-- Lanes: the bits of a block's settings, and of the settings that lack one digit of them.
-- Larger: the word of covered settings, taken to its fixed point, is exact.
-- Theorems: the claims.
pub mod Explaining
pub mod Subsets
pub mod SubsetDigits
pub mod Minimal
pub mod Covering
pub mod Dropping
pub mod Weighing
pub mod Shifting
pub mod Rows
pub mod Lanes
pub mod Larger
pub mod Theorems
