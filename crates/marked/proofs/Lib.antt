-- Marking: the ten marked files, by computation.
pub mod Marking
