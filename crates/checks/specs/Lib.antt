-- In reading order.
-- Checks: the checks of a line, in their order, and what was read with a line that passes them.
-- Naming: what a name is.
-- Looked: what a look at a line answers.
-- Progress: what the reader knows between two lines.
-- Took: what taking a line answers and leaves.
pub mod Checks
pub mod Naming
pub mod Looked
pub mod Progress
pub mod Took
