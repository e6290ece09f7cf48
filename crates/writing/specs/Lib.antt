-- In reading order.
-- Lines: the lines of a case.
-- Used: what a record and its tables say in their used entries.
-- Operation: what writing answers and leaves in the output.
-- Steps: what the code's steps leave.
pub mod Lines
pub mod Used
pub mod Operation
pub mod Steps
