-- The laws of this crate, a file for each notion.
-- EarlyRefusals: the early refusals 1 and 2.
-- ZeroedTables: tables zeroed in their sizes.
-- TakingLines: the lines taken one after the other.
-- FilledTables: what filled tables hold.
-- EndChecks: the end of reading, the checks 11 and 12.
-- ReadingLines: a file read into tables of full size.
-- FirstBad: all lines pass, or the first bad one decides.
-- RefusalNumbers: the number of a refusal is never 0.
-- WellFormed: what it is for what was read to be well formed.
-- WellFormedLines: lines that pass keep it so.
-- Sound: what was read of an accepted file is a sound case.
-- Bodies: no body of an accepted file has more than 11 literals.
-- LinesSay: what was read is what the lines say.
-- FileSays: an accepted file's record and tables say what the file says.
-- Theorems: a proof of each claim of specs/Claims.antt.
pub mod EarlyRefusals
pub mod ZeroedTables
pub mod TakingLines
pub mod FilledTables
pub mod EndChecks
pub mod ReadingLines
pub mod FirstBad
pub mod RefusalNumbers
pub mod WellFormed
pub mod WellFormedLines
pub mod Sound
pub mod Bodies
pub mod LinesSay
pub mod FileSays
pub mod Theorems
