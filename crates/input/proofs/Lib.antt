-- Reading: what one call of read adds to the bytes read.
-- Answering: what a program makes of the bytes read, and of writing its answer.
pub mod Reading
pub mod Answering
