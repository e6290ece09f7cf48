-- In reading order.
-- Bytes: which bytes stand in words, and which a line may have.
-- Lines: the lines of a file.
-- Tokens: the words and brackets of a line.
-- Words: names among the words of a line, the place of a word among others, and what a word is made of.
-- Numbers: the number that digits stand for.
-- Spelled: tokens and lines written as text.
-- Claims: what is claimed of tokens written as text.
-- Scanning: what scanning from a place finds.
pub mod Bytes
pub mod Lines
pub mod Tokens
pub mod Words
pub mod Numbers
pub mod Spelled
pub mod Claims
pub mod Scanning
