-- Marked: the ten marked files.
pub mod Marked
