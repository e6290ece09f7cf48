-- Counting: from a bound on a number of bytes to what contracts ask.
-- Writing: what one call of write adds to the bytes written.
pub mod Counting
pub mod Writing
