-- Every: one computed test in place of a case for each value.
-- Values: laws of the values' tests, their ranks and the connectives.
-- Order: laws of the order of information.
-- Interpretations: the values in an interpretation, and the interpretation of given values.
-- Decided: how many atoms an interpretation decides, and how many newly.
-- Bodies: what the masks of a body test.
-- Spelling: what a node in front of formulas gives, and how values and depths follow it.
-- Reading: one law for each way out of `eval`, `measure` and `one_formula`.
-- Spelled: nodes that pass the test are the nodes of exactly one formula.
-- Theorems: a proof of each claim of specs/Claims.antt.
pub mod Every
pub mod Values
pub mod Order
pub mod Interpretations
pub mod Decided
pub mod Bodies
pub mod Spelling
pub mod Reading
pub mod Spelled
pub mod Theorems
