-- Laws, in reading order.
-- Putting: a list put in front of another.
-- Exports: what an operation answers, put to words.
pub mod Putting
pub mod Exports
