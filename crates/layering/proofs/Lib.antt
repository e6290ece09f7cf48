-- Chains: laws of chains of dependencies, their heads and least numbers.
-- Rings: a ring has no numbering, and how many atoms it has.
-- Peeling: how the numbers are given, round after round.
-- Following: a path of dependencies, and the ring at its end.
-- Answers: laws of what the operation answers.
-- Theorems: a proof of each claim.
-- Marked: marked files, layered by computation.
pub mod Chains
pub mod Rings
pub mod Peeling
pub mod Following
pub mod Answers
pub mod Theorems
pub mod Marked
