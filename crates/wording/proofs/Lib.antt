-- Laws, in reading order.
-- LineTexts: the lines of a report, and what a digit adds, as the pieces that the code writes.
-- Lines: how each line, and each form in one, is written.
-- Progress: a text that is being written piece by piece.
-- Abducibles: how what a setting adds is written, cause by cause.
-- Listings: how the lines of a list are written, and the text of an answer.
-- Naming: the names that a report shows.
-- Lengths: the length of a report's lines.
pub mod LineTexts
pub mod Lines
pub mod Progress
pub mod Abducibles
pub mod Listings
pub mod Naming
pub mod Lengths
