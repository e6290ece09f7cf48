-- The laws of this crate, a file for each notion. Assumes nothing.
-- Slices: parts of a list.
-- ByteLaws: the tests of bytes, and a test of every byte.
-- Same: the comparison of bytes.
-- Places: the place of a word among words.
-- LineLaws: the lines of a file.
-- TokenLaws: the words and brackets of a line.
-- TokenCounts: a line has at most as many tokens as bytes.
-- NameLaws: the names of tokens, by the first of them.
-- Words: what the words of a line are made of.
-- NumberLaws: the number that digits stand for.
-- Names: the names of a line.
-- Each: what holds of each entry of a list.
-- Spelled: tokens and lines written as text: what is read, which bytes stand there, and lengths.
-- Theorems: a proof of each claim.
pub mod Slices
pub mod ByteLaws
pub mod Same
pub mod Places
pub mod LineLaws
pub mod TokenLaws
pub mod TokenCounts
pub mod NameLaws
pub mod Words
pub mod NumberLaws
pub mod Names
pub mod Each
pub mod Spelled
pub mod Theorems
