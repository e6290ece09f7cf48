-- The laws of this crate, a file for each notion.
-- Looking: the checks 3 to 5 of a line.
-- Refusing: the checks of a line from 6 on, by their numbers.
-- Passing: lines that pass their checks.
-- Naming: the names of a line that passes them are names.
-- Costed: the atoms with a cost.
-- After: what was read after a line.
-- Taking: what taking a line leaves.
pub mod Looking
pub mod Refusing
pub mod Passing
pub mod Naming
pub mod Costed
pub mod After
pub mod Taking
