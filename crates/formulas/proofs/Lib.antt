-- Theorems: a proof of each claim.
-- Keywords: the numbers that words have.
-- Sentences: how a formula's depth, nodes and tokens bound each other, and its names.
-- NameSentence: the formula that is a name.
-- FormSentence: the formulas that are forms.
-- Reading: what tokens are read as, by cases.
-- FirstItem: what items begin with, by the token in front.
-- Forms: a form in front of items.
-- Spelling: formulas are read as they are spelled.
-- SentenceWords: the words of a formula's tokens.
-- Sizes: how many nodes formulas have.
-- Formulas: formulas at a place of a line.
pub mod Theorems
pub mod Keywords
pub mod Sentences
pub mod NameSentence
pub mod FormSentence
pub mod Reading
pub mod FirstItem
pub mod Forms
pub mod Spelling
pub mod SentenceWords
pub mod Sizes
pub mod Formulas
