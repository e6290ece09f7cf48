-- Laws, in reading order.
-- Texts: how the text of layers, and of a ring, is written.
-- Bounds: names that agree give the same text, and how long a text can be.
-- Sayings: what is told of what an accepted file says.
-- Answers: what is told of a file that was read.
-- Theorems: a proof of each claim of specs/Claims.antt.
pub mod Texts
pub mod Bounds
pub mod Sayings
pub mod Answers
pub mod Theorems
