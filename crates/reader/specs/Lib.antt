-- In reading order.
-- Reading: the first bad line decides; then the checks after the last line.
-- Answers: the answers of reading.
-- Operation: what reading answers and leaves in the tables.
-- Contents: what a file says, and what it is for a record and tables to say it.
-- Claims: what is claimed beyond the contract.
-- Steps: what the code's steps leave.
pub mod Reading
pub mod Answers
pub mod Operation
pub mod Contents
pub mod Claims
pub mod Steps
