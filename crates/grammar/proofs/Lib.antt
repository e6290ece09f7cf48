-- Literals: the literals that tokens are.
-- KindLaws: the words of kinds, and the lines of a kind.
-- Forms: the forms that are found in a line.
-- Flat: the words of a flat line.
-- Costs: the forms of costs, by these words.
-- Atoms: the forms of atom lines, by these words.
-- Editions: the forms of edition lines, by these words.
-- LineReading: what is spelled is read.
-- Spelling: what is read is spelled.
-- LineLaws: the names of a line, what it brings, and how many literals and nodes it has.
-- LineTokens: the tokens of a line of each kind.
-- LineWords: the words of a line's tokens.
-- Theorems: a proof of each claim of specs/Claims.antt.
pub mod Literals
pub mod KindLaws
pub mod Forms
pub mod Flat
pub mod Costs
pub mod Atoms
pub mod Editions
pub mod LineReading
pub mod Spelling
pub mod LineLaws
pub mod LineTokens
pub mod LineWords
pub mod Theorems
