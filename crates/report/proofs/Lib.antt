-- Laws, in reading order.
-- FileTexts: the text of a file, whichever text stands for what it says.
-- Accepted: what is known of an accepted file, and of what its question answers.
-- Showing: what is shown of a text.
-- Reported: the report of a file that was read.
-- Theorems: a proof of each claim of specs/Claims.antt.
pub mod FileTexts
pub mod Accepted
pub mod Showing
pub mod Reported
pub mod Theorems
