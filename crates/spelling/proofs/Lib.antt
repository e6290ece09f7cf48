-- The laws of this crate, in reading order. Assumes nothing.
-- Pens: tokens written one behind the other.
-- Pages: lines written one behind the other.
pub mod Pens
pub mod Pages
