-- Noting: one head decided by its rules.
-- Deciding: the heads of a word decided one by one.
-- Committing: what is noted taken into the planes.
-- Beginning: the first round, atom by atom.
pub mod Noting
pub mod Deciding
pub mod Committing
pub mod Beginning
