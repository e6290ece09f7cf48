-- In reading order.
-- Sentence: formulas over names, and how a line spells them.
-- Keyword: the words of forms, told apart.
-- Items: formulas read from tokens.
-- Claims: what is claimed of the words of forms.
-- Parsing: what parsing a formula from a place finds.
pub mod Sentence
pub mod Keyword
pub mod Items
pub mod Claims
pub mod Parsing
