-- Laws, in reading order.
-- States: the states that draws go through.
-- Drawing: what is drawn from a state.
-- Names: the names of a load.
-- Sizes: how long its lines and its text are.
-- Theorems: a proof of each claim of specs/Claims.antt.
-- Clauses: the clause that is drawn from a state, by what the draws yield.
-- NameTexts: how the name of an atom is written.
-- LiteralTexts: how literals are drawn and written one after the other.
-- LineTexts: how the lines of a load are written.
-- Generating: the refusals of generating, and the text where there is none.
pub mod States
pub mod Drawing
pub mod Names
pub mod Sizes
pub mod Theorems
pub mod Clauses
pub mod NameTexts
pub mod LiteralTexts
pub mod LineTexts
pub mod Generating
